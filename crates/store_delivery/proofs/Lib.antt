mod Lists
mod Waiting
mod Attempting
mod Progressing
mod Ending
mod Answering
mod Rounds
