mod Texts
mod PlainKinds
mod Zeros
mod HalfTexts
mod FingerprintTexts
mod TemporaryNames
mod PaddedNumbers
mod Reading
