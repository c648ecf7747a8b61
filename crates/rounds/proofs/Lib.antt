-- A theorem that rests on the bytes of the smallest sheet.
pub mod Smallest
