pub mod First
pub mod Has
