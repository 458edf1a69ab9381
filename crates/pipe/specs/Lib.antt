pub mod pipe_ends
pub mod pipe_join
pub mod pipe_rims
pub mod pipe_seam
pub mod pipe_words
