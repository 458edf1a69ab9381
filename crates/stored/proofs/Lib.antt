mod Words
mod Moving
