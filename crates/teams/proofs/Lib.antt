pub mod TeamLaws
pub mod BudgetLaws
pub mod WrittenLaws
pub mod OwnLaws
pub mod StrictLaws
