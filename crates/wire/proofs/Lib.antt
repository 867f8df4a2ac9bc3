-- Laws of bit-packing, over any list of fields, and of the record.
pub mod PackingLaws
pub mod RecordLaws
pub mod WordLaws
pub mod RecordPromised
pub mod Examples
