-- Lemmas.
mod FieldTypes
