pub mod TableFigure
pub mod OutcomeAnswers
