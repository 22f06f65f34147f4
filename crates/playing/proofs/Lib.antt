-- Laws of buffers, desks and printed lines, apart from any code.
pub mod Copies
pub mod StateLaws
pub mod QuestionLaws
pub mod LineLaws
pub mod PlayLaws
pub mod StatementLaws
pub mod ReadLaws
pub mod TurnLaws
pub mod HelpLaws
pub mod RunLaws
