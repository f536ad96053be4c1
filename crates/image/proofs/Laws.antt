pub mod ImageCheck
