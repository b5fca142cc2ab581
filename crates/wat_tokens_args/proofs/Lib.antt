mod ArgumentLaws
mod CallLaws
mod ComplaintLaws
mod LineLaws
mod OptionLaws
