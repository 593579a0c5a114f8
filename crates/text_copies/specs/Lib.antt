pub mod CopyLines
