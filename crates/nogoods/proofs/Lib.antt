pub mod NogoodLaws
