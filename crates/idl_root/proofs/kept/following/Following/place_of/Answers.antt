use Rattle.std.proofs.Common.{◌≡◌, ◌∙◌, ap, rules, subst, true}
use Rattle.idl_root_blocks.specs.idl_check.walk.Verdict.{verdict}
use Rattle.idl_env.specs.Facts.{answers}
use Rattle.idl_env.specs.Turns.{most_turns}
use Rattle.idl_env.specs.keys.Key.{key_digest}
use Rattle.idl_root.specs.Changed.{ShareNone}
use Rattle.idl_kept.specs.Texts.{DeclarationResult}
use Rattle.idl_root_blocks.specs.Places.{declaration_result}
use Rattle.std.specs.Prelude.{map}
use Rattle.idl_root.proofs.AgainLemmas.{result-again}
use Rattle.idl_root.proofs.ResultLemmas.{first-next, first-result}
use Rattle.idl_root.proofs.kept.following.Following.place_of.Goals as goal

pub returns : goal.returns
returns c =
    let k : DeclarationResult = c.in_ok-declaration.declaration.now in
    let stored = c.args.kept.now in
    let following = c.args.self.now in
    let first = c.in_ok-declaration.ensures.first in
    let yes : c.shares_none_of.result ≡ true = search rules in
    let log : c.unit_log.result.now ≡ k.log = c.unit_log.ensures in
    let apart : ShareNone (map (λ e. key_digest e.0) k.log) following.changed = subst (λ l. ShareNone (map (λ e. key_digest e.0) l) following.changed) log (c.shares_none_of.ensures yes) in
    record {
      result = k;
      found = search rules;
      next = first-next stored.lists k following.course first;
      again = λ earlier facts b.
          let own = first-result stored.lists k following.course b.beside.before first b.beside.units in
          result-again (verdict most_turns) following.is_around following.changed b.beside.before facts k own b.beside.but apart
          ∙ ap (λ t. declaration_result (t, answers facts)) c.in_ok-declaration.ensures.text;
    }
