pub mod NotNegative
