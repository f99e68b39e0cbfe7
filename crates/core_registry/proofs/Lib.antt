mod Happening
mod Posting
