pub mod Beginnings
pub mod AddedLines
pub mod RaisedWords
