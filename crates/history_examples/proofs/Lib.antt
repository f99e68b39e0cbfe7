mod Owing
mod Serving
