mod Edited
mod Listed
mod Said
mod OneFiles
