pub mod OneProof
pub mod Lists
pub mod Nested
pub mod Kept
pub mod Results
pub mod Bodies
