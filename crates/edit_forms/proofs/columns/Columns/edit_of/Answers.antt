-- Each operation's columns are those of its line in the table.
use Rattle.edit_forms.proofs.columns.Columns.edit_of.Goals as goal

pub returns-in-PropPut-clause-answer : goal.returns-in-PropPut-clause-answer
returns-in-PropPut-clause-answer c = rw c.in-PropPut.is c.prop_put.ensures.answer

pub returns-in-PropDel-clause-answer : goal.returns-in-PropDel-clause-answer
returns-in-PropDel-clause-answer c = rw c.in-PropDel.is c.prop_del.ensures.answer
