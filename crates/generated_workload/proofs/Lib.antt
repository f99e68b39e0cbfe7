mod Forms
mod Lists
mod Sums
