pub mod BufferLaws
pub mod RefusalLaws
