mod Words
mod Laid
