use Rattle.std.proofs.Common.{◌≡◌, ◌-◌, ℕ, List, [], None, take}
use Rattle.std.specs.Prelude.{fold}
use Rattle.idl_check.specs.tables.Using.{further_uses}
use Rattle.idl_env.specs.Facts.{over, with_addition}
use Rattle.idl_lex.specs.kinds.Keywords.{folded}
use Rattle.idl_scope.specs.Meaning.{own_at, undeclared}
use Rattle.idl_check.proofs.tables.using.introduce_further.Given as goal

-- those that are still reached, put behind those so far, come to all of them
abbrev pub invariant-loop-passed : goal.invariant-loop-passed
invariant-loop-passed l = record {
  name : l.name ≡ folded l.used.name.now.first;
  uses : fold with_addition l.own.additions (further_uses (folded l.used.name.now.first) l.unless (undeclared (λ k. over l.fn.own.additions k None) (folded l.used.name.now.first) (take (l.used.reach.further - l._passed) l.rest)))
      ≡ fold with_addition l.fn.own.additions (further_uses (folded l.used.name.now.first) [] (undeclared (λ k. over l.fn.own.additions k None) (folded l.used.name.now.first) (take l.used.reach.further l.scopes)));
  declared : (path : List (List ℕ)) → own_at (λ k. over l.own.additions k None) (folded l.used.name.now.first) path ≡ own_at (λ k. over l.fn.own.additions k None) (folded l.used.name.now.first) path;
  step : l.own.step ≡ l.fn.own.step;
}
