mod Copies
mod Pieces
mod Examples
