mod Counts
mod FilterLaws
mod ShownLaws
mod VisibleLaws
mod WindowLaws
