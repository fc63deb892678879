pub mod FieldsCompared
