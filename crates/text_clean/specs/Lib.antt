pub mod CleanText
