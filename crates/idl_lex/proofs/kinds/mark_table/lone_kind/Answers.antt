use Rattle.std.proofs.Common.{[], ◌∷◌, ap, sym}
use Rattle.idl_lex.specs.kinds.Kind.{kind_of}
use Rattle.idl_lex.specs.kinds.Marks.{marks}
use Rattle.idl_lex.proofs.kinds.mark_table.lone_kind.Goals as goal

pub returns-in-59 : goal.returns-in-59
unfolding kind_of marks
returns-in-59 c = ap (λ b. kind_of (b ∷ [])) (sym c.in-59.is)

pub returns-in-44 : goal.returns-in-44
unfolding kind_of marks
returns-in-44 c = ap (λ b. kind_of (b ∷ [])) (sym c.in-44.is)

pub returns-in-123 : goal.returns-in-123
unfolding kind_of marks
returns-in-123 c = ap (λ b. kind_of (b ∷ [])) (sym c.in-123.is)

pub returns-in-125 : goal.returns-in-125
unfolding kind_of marks
returns-in-125 c = ap (λ b. kind_of (b ∷ [])) (sym c.in-125.is)

pub returns-in-40 : goal.returns-in-40
unfolding kind_of marks
returns-in-40 c = ap (λ b. kind_of (b ∷ [])) (sym c.in-40.is)

pub returns-in-41 : goal.returns-in-41
unfolding kind_of marks
returns-in-41 c = ap (λ b. kind_of (b ∷ [])) (sym c.in-41.is)

pub returns-in-91 : goal.returns-in-91
unfolding kind_of marks
returns-in-91 c = ap (λ b. kind_of (b ∷ [])) (sym c.in-91.is)

pub returns-in-93 : goal.returns-in-93
unfolding kind_of marks
returns-in-93 c = ap (λ b. kind_of (b ∷ [])) (sym c.in-93.is)
