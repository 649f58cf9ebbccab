pub mod RecurrenceLaws
pub mod RewrittenLaws
