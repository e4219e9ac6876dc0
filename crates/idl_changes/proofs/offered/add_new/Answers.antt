use Rattle.std.proofs.Common.{◌∙◌, ◌++◌, ◌∷◌, ◌||◌, [], ℕ, Bool, Option, ap, append-nil, cond, false, filter, nat_eq, not, sym}
use Rattle.std.specs.List.{list_any}
use Rattle.std.specs.Option.{option_map_or, option_to_list}
use Rattle.idl_changes.proofs.SetLemmas.{has-place, more-places, or-false, or-turned}
use Rattle.idl_changes.proofs.offered.add_new.Goals as goal

pub returns-in_default-clause-found : goal.returns-in_default-clause-found
returns-in_default-clause-found c = λ n.
    let old = list_any (nat_eq n) c.args.found.now.keys in
    sym (or-false old) ∙ ap (λ (o : Option ℕ). old || option_map_or (nat_eq n) o false) (sym c.in_default.is)

pub returns-in_default-clause-ahead : goal.returns-in_default-clause-ahead
returns-in_default-clause-ahead c =
    let old = c.args.found.now.keys in
    let ahead = c.args.ahead.now.items in
    sym (append-nil ahead) ∙ ap (λ (o : Option ℕ). ahead ++ filter (λ n. not (list_any (nat_eq n) old)) (option_to_list o)) (sym c.in_default.is)

pub returns-then-not-is_new-clause-found : goal.returns-then-not-is_new-clause-found
returns-then-not-is_new-clause-found c = λ n.
    let old = c.args.found.now.keys in
    let k = c.in-Some.place in
    more-places old c.insert.new.self.keys k n (c.in_ok-is_new.ensures.updates.0 n)
    ∙ or-turned (nat_eq n k) (list_any (nat_eq n) old)
    ∙ ap (λ (o : Option ℕ). list_any (nat_eq n) old || option_map_or (nat_eq n) o false) (sym c.in-Some.is)

pub returns-then-not-is_new-clause-ahead : goal.returns-then-not-is_new-clause-ahead
returns-then-not-is_new-clause-ahead c =
    let old = c.args.found.now.keys in
    let k = c.in-Some.place in
    let ahead = c.args.ahead.now.items in
    let known = sym (ap not (has-place k old)) ∙ sym c.in_ok-is_new.ensures.added ∙ c.if-not-is_new.true in
    sym (append-nil ahead)
    ∙ ap (λ (b : Bool). ahead ++ cond b (k ∷ []) []) (sym known)
    ∙ ap (λ (o : Option ℕ). ahead ++ filter (λ n. not (list_any (nat_eq n) old)) (option_to_list o)) (sym c.in-Some.is)

pub returns-clause-found : goal.returns-clause-found
returns-clause-found c = λ n.
    let old = c.args.found.now.keys in
    let k = c.in-Some.place in
    more-places old c.insert.new.self.keys k n (c.in_ok-is_new.ensures.updates.0 n)
    ∙ or-turned (nat_eq n k) (list_any (nat_eq n) old)
    ∙ ap (λ (o : Option ℕ). list_any (nat_eq n) old || option_map_or (nat_eq n) o false) (sym c.in-Some.is)

pub returns-clause-ahead : goal.returns-clause-ahead
returns-clause-ahead c =
    let old = c.args.found.now.keys in
    let k = c.in-Some.place in
    let ahead = c.args.ahead.now.items in
    let fresh = sym (ap not (has-place k old)) ∙ sym c.in_ok-is_new.ensures.added ∙ c.if-not-is_new.false in
    c.in_ok-push.ensures.items
    ∙ ap (λ (b : Bool). ahead ++ cond b (k ∷ []) []) (sym fresh)
    ∙ ap (λ (o : Option ℕ). ahead ++ filter (λ n. not (list_any (nat_eq n) old)) (option_to_list o)) (sym c.in-Some.is)
