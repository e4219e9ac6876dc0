use Rattle.std.proofs.Common.{◌≡◌, Some, slice_get, sym, ap, refl, ◌∙◌, rules}
use Rattle.std.specs.Cmp.Lexicographic.{bytes_decides}
use Rattle.std.specs.Option.{option_copied}
use Rattle.idl_event.specs.Key.{key_code, key_eq}
use Rattle.idl_event.specs.declared.asked.key.RootKey.TheVariants.{Macro}
use Rattle.idl_event.proofs.LogLemmas.{is_logged-at}
use Rattle.idl_event.proofs.asked.hinted_log.word_at.Goals as goal

pub returns-in-Macro : goal.returns-in-Macro
returns-in-Macro g c =
    let word = c.args.word.now in
    let answer = option_copied c.in_ok-key._answer in
    let key : c.in_ok-key.key.now ≡ Macro word = search rules in
    let at : slice_get c.args.log.now c.args.place ≡ Some (Macro word, answer) = sym c.in_ok-key.ensures ∙ ap (λ k. Some (k, answer)) key in (
      key,
      is_logged-at key_eq c.args.log.now (Macro word) c.args.place (Macro word) answer at ((bytes_decides (key_code (Macro word)) (key_code (Macro word))).1 refl),
    )
