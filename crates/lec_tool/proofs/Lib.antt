pub mod Unrefused
mod CutLeaves
mod LeafLists
mod Deciding
pub mod Named
