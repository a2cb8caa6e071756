mod KnownLines
mod KnownTexts
