pub mod Numbers
pub mod OneLine
