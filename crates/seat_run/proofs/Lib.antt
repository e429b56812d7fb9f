mod Gathering
mod Asked
mod SealedTexts
