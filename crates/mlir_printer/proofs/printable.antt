pub mod PrintableExample
