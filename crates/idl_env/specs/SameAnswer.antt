-- Why `==` holds of one answer alone, and why a clone is its source.
-- Nothing to believe here: all of it is proved.
use Rattle.std.specs.Prelude.{◌≡◌, Bool, true, refl}
use Rattle.std.proofs.Common.{ap}
use Rattle.std.specs.Cmp.Lexicographic.{bytes_decides}
use Rattle.idl_base.specs.Exact.{same_list, same_number}
use Rattle.idl_entity.specs.Entity.{same_entity}
use Rattle.idl_entity.specs.SameIdentity.{same_identity, same_prefix}
use Rattle.idl_env.specs.answering.Scope.{same_scope, scope_eq}
use Rattle.idl_env.specs.contracts.answering.answer.AnswerPartialEq.TheImpl.{ghosts}
use Rattle.idl_env.specs.declared.answering.answer.Answer.{Answer}
use Rattle.idl_env.specs.declared.answering.answer.Answer.TheVariants.{Open, Known, Used, Count, InForce, Appeared, Identified, Prefixed}

-- whether two answers are one
abbrev pub answer_eq : Answer → Answer → Bool
answer_eq = ghosts.eq

pub same_answer : (a b : Answer) → answer_eq a b ≡ true → a ≡ b
same_answer (Open s) (Open t) h = ap Open (same_list scope_eq same_scope s t h)
same_answer (Known e) (Known f) h = ap Known (same_entity e f h)
same_answer Used Used h = refl
same_answer (Count n) (Count m) h = ap Count (same_number n m h)
same_answer (InForce p) (InForce q) h = ap InForce (same_prefix p q h)
same_answer (Appeared p) (Appeared q) h = ap Appeared (same_prefix p q h)
same_answer (Identified d) (Identified g) h = ap Identified (same_identity d g h)
same_answer (Prefixed s) (Prefixed t) h = ap Prefixed ((bytes_decides s t).0 h)
same_answer a b h = cc

-- a copied answer is its source, by the copies of its parts
abbrev pub IsAnswerCopy : Answer → Answer → Type 0
IsAnswerCopy (Open s) (Open t) = t ≡ s
IsAnswerCopy (Known e) (Known f) = f ≡ e
IsAnswerCopy Used Used = Unit {0}
IsAnswerCopy (Count n) (Count m) = m ≡ n
IsAnswerCopy (InForce p) (InForce q) = q ≡ p
IsAnswerCopy (Appeared p) (Appeared q) = q ≡ p
IsAnswerCopy (Identified d) (Identified g) = g ≡ d
IsAnswerCopy (Prefixed s) (Prefixed t) = t ≡ s
IsAnswerCopy answer copy = ⊥

pub copied_answer : (a copy : Answer) → IsAnswerCopy a copy → copy ≡ a
copied_answer (Open s) (Open t) h = ap Open h
copied_answer (Known e) (Known f) h = ap Known h
copied_answer Used Used h = refl
copied_answer (Count n) (Count m) h = ap Count h
copied_answer (InForce p) (InForce q) h = ap InForce h
copied_answer (Appeared p) (Appeared q) h = ap Appeared h
copied_answer (Identified d) (Identified g) h = ap Identified h
copied_answer (Prefixed s) (Prefixed t) h = ap Prefixed h
copied_answer a copy h = absurd h
