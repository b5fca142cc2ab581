mod CompileLaws
mod ModuleLaws
mod OutcomeLaws
mod PrintLaws
mod RespondLaws
mod RunLaws
