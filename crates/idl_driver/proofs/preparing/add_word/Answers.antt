use Rattle.std.proofs.Common.{◌≡◌, ◌∙◌, ◌++◌, ◌∷◌, [], ℕ, Bor, List, None, Option, Some, ap, codes, cond, false, map, not, sym, true}
use Rattle.std.proofs.lemmas.List.{append-nil, map-append}
use Rattle.std.proofs.lemmas.Result.{on_ok_weaker}
use Rattle.std.specs.Option.{is_some, option_map_or}
use Rattle.idl_source.specs.names.Path.{joined_path}
use Rattle.idl_driver.specs.Options.{is_nameless, with_name}
use Rattle.idl_driver.proofs.LoadingLemmas.{on_ok}
use Rattle.idl_driver.proofs.preparing.add_word.Goals as goal

pub returns-in_default-clause-named : goal.returns-in_default-clause-named
returns-in_default-clause-named c =
    let keys = c.args.roots.now.keys in
    let none : joined_path (codes ".") c.args.word.now ≡ None = ap (joined_path (codes ".")) (sym c.as_bytes.ensures.value) ∙ sym c.name_at.ensures ∙ c.in_default.is in
    sym (ap (λ (n : Option (List ℕ)). option_map_or (with_name keys) n keys) none)

pub returns-in_default-clause-nameless : goal.returns-in_default-clause-nameless
returns-in_default-clause-nameless c =
    let text = λ (w : Bor (List ℕ)). w.now in
    let old = c.args.nameless.now.items in
    let word = c.args.word.now in
    let none : joined_path (codes ".") word ≡ None = ap (joined_path (codes ".")) (sym c.as_bytes.ensures.value) ∙ sym c.name_at.ensures ∙ c.in_default.is in
    let is : is_nameless word ≡ true = ap (λ (n : Option (List ℕ)). not (is_some n)) none in
    ap (map text) c.in_ok-push.ensures.items ∙ map-append text old _ ∙ ap (λ b. map text old ++ cond b (word ∷ []) []) (sym is)

pub returns-clause-named : goal.returns-clause-named
returns-clause-named c =
    let keys = c.args.roots.now.keys in
    let some : joined_path (codes ".") c.args.word.now ≡ Some c.in-Some.name = ap (joined_path (codes ".")) (sym c.as_bytes.ensures.value) ∙ sym c.name_at.ensures ∙ c.in-Some.is in
    on_ok_weaker c.put_root.result (λ put. put ∙ sym (ap (λ (n : Option (List ℕ)). option_map_or (with_name keys) n keys) some)) c.put_root.ensures

pub returns-clause-nameless : goal.returns-clause-nameless
returns-clause-nameless c =
    let text = λ (w : Bor (List ℕ)). w.now in
    let old = c.args.nameless.now.items in
    let word = c.args.word.now in
    let some : joined_path (codes ".") word ≡ Some c.in-Some.name = ap (joined_path (codes ".")) (sym c.as_bytes.ensures.value) ∙ sym c.name_at.ensures ∙ c.in-Some.is in
    let isnt : is_nameless word ≡ false = ap (λ (n : Option (List ℕ)). not (is_some n)) some in
    on_ok c.put_root.result (sym (ap (λ b. map text old ++ cond b (word ∷ []) []) isnt ∙ append-nil (map text old)))
