-- Pieces that are written, one after another.
use Rattle.std.proofs.Common.{◌≡◌, ◌∙◌, ℕ, ◌+◌, ◌-◌, ◌<◌, ◌≤◌, List, [], ◌∷◌, ◌++◌, Bool, true, false, cond, ◌||◌, Option, Result, Ok, Err, All, refl, subst, sym, ap, append_assoc, arith, codes, drop, flat_map, get_or, length, take}
use Rattle.std.specs.Prelude.{OnOk, is_ok, if◌then◌else◌}
use Rattle.std.proofs.lemmas.List.Elements.{All-cons, All-head, All-nil, All-tail}
use Rattle.std.proofs.lemmas.List.Folds.{list_any-append}
use Rattle.std.proofs.lemmas.List.{append-nil, flat_map_more, take_all, take_more}
use Rattle.idl_memo.specs.Query.{Done, asked, is_logged, noted, noted_all, outcome, run}
use Rattle.idl_memo.proofs.QueryLaws.{asked-and_then, noted_all-append, outcome-and_then, run-and_then_at}
use Rattle.idl_repo.specs.Pieces.{Grows, IdOf, Pieces, Says, State, asked_of, commas, ids_in, says, text_over, written}
use Rattle.idl_scope.specs.Known.{id_of, known, told_of, typeprefix_around}
use Rattle.idl_env.specs.keys.Digested.{key_equiv}
use Rattle.idl_env.specs.Facts.{UnitFacts, answers, id_at, identity_in}
use Rattle.idl_env.specs.keys.Key.{key_eq}
use Rattle.idl_env.specs.declared.answering.answer.Answer.{Answer}
use Rattle.idl_env.specs.declared.keys.key.Key.{Key}
use Rattle.idl_env.specs.declared.keys.key.Key.TheVariants as key

-- the text of some pieces and then others
pub text_over-append : (bank : Key → Option Answer) (p q : Pieces) → text_over bank (p ++ q) ≡ text_over bank p ++ text_over bank q
unfolding text_over
text_over-append bank [] q = refl
text_over-append bank (Says text ∷ p) q = ap (λ x. text ++ x) (text_over-append bank p q) ∙ sym (append_assoc text (text_over bank p) (text_over bank q))
text_over-append bank (IdOf path ∷ p) q = let id = outcome (id_of path) bank in ap (λ x. id ++ x) (text_over-append bank p q) ∙ sym (append_assoc id (text_over bank p) (text_over bank q))

-- and their ids
pub ids_in-append : (bank : Key → Option Answer) (p q : Pieces) → ids_in bank (p ++ q) ≡ ids_in bank p ++ ids_in bank q
unfolding ids_in
ids_in-append bank [] q = refl
ids_in-append bank (Says text ∷ p) q = ids_in-append bank p q
ids_in-append bank (IdOf path ∷ p) q = ap (λ x. asked_of bank path ++ x) (ids_in-append bank p q) ∙ sym (append_assoc (asked_of bank path) (ids_in bank p) (ids_in bank q))

-- nothing
pub grows-nothing : {s : State} → Grows [] s s
unfolding text_over ids_in
grows-nothing {s} = record { facts = refl; text = sym (append-nil s.1.0); log = refl }

-- a text alone
pub grows-text : {facts : List UnitFacts} {word old new : List ℕ} {log : List (Key × Option Answer)} → new ≡ old ++ word → Grows (says word) (facts, (old, log)) (facts, (new, log))
unfolding text_over ids_in
grows-text {facts} {word} {old} {new} {log} e = record { facts = refl; text = e ∙ ap (λ x. old ++ x) (sym (append-nil word)); log = refl }

-- some pieces, and then others
pub grows-then : {p q : Pieces} {s t u : State} → Grows p s t → Grows q t u → Grows (p ++ q) s u
grows-then {p} {q} {s} {t} {u} h g =
    let bank = answers s.0 in
    record {
      facts = g.facts ∙ h.facts;
      text = g.text ∙ ap (λ f. t.1.0 ++ text_over (answers f) q) h.facts ∙ ap (λ x. x ++ text_over bank q) h.text ∙ append_assoc s.1.0 (text_over bank p) (text_over bank q) ∙ ap (λ x. s.1.0 ++ x) (sym (text_over-append bank p q));
      log = g.log ∙ ap (λ f. noted_all key_eq (answers f) t.1.1 (ids_in (answers f) q)) h.facts ∙ ap (λ x. noted_all key_eq bank x (ids_in bank q)) h.log ∙ sym (noted_all-append key_eq bank s.1.1 (ids_in bank p) (ids_in bank q)) ∙ ap (noted_all key_eq bank s.1.1) (sym (ids_in-append bank p q));
    }

-- a text, and then pieces
pub says-then : {facts : List UnitFacts} {word old new : List ℕ} {log : List (Key × Option Answer)} {p : Pieces} {u : State} → new ≡ old ++ word → Grows p (facts, (new, log)) u → Grows (Says word ∷ p) (facts, (old, log)) u
says-then e h = grows-then (grows-text e) h

-- a text that is what is to be said
pub says-as : {facts : List UnitFacts} {told word old new : List ℕ} {log : List (Key × Option Answer)} {p : Pieces} {u : State} → new ≡ old ++ told → told ≡ word → Grows p (facts, (new, log)) u → Grows (Says word ∷ p) (facts, (old, log)) u
says-as {told} {word} {old} {new} e is h = says-then (e ∙ ap (λ w. old ++ w) is) h

pub text-as : {facts : List UnitFacts} {told word old new : List ℕ} {log : List (Key × Option Answer)} → new ≡ old ++ told → told ≡ word → Grows (says word) (facts, (old, log)) (facts, (new, log))
text-as {told} {word} {old} {new} e is = grows-text (e ∙ ap (λ w. old ++ w) is)

-- a text that is two to be said
pub says-two : {facts : List UnitFacts} {told first second old new : List ℕ} {log : List (Key × Option Answer)} {p : Pieces} {u : State} → new ≡ old ++ told → told ≡ first ++ second → Grows p (facts, (new, log)) u → Grows (Says first ∷ Says second ∷ p) (facts, (old, log)) u
says-two {told} {first} {second} {old} {new} e is h = says-then refl (says-then (e ∙ ap (λ w. old ++ w) is ∙ sym (append_assoc old first second)) h)

-- an id, and then pieces
pub id-then : {path : List (List ℕ)} {p : Pieces} {s t u : State} → Grows (IdOf path ∷ []) s t → Grows p t u → Grows (IdOf path ∷ p) s u
id-then h g = grows-then h g

-- an id, as it is answered
pub grows-id : {facts : List UnitFacts} {path : List (List ℕ)} {told old new : List ℕ} {log after : List (Key × Option Answer)} → new ≡ old ++ told → (told, after) ≡ run key_eq (id_of path) (answers facts) log → Grows (IdOf path ∷ []) (facts, (old, log)) (facts, (new, after))
unfolding text_over ids_in
grows-id {facts} {path} {told} {old} {new} {log} {after} e is =
    let bank = answers facts in
    record {
      facts = refl;
      text = e ∙ ap (λ (r : List ℕ × List (Key × Option Answer)). old ++ r.0) is ∙ ap (λ x. old ++ x) (sym (append-nil (outcome (id_of path) bank)));
      log = ap (λ (r : List ℕ × List (Key × Option Answer)). r.1) is ∙ ap (noted_all key_eq bank log) (sym (append-nil (asked_of bank path)));
    }

-- the id of what this is answered of, where these typeprefixes are asked behind it
pub id-run : (bank : Key → Option Answer) (path : List (List ℕ)) (log after : List (Key × Option Answer)) (typeprefix : Option (List ℕ))
    → (typeprefix, after) ≡ run key_eq (typeprefix_around path) bank (noted key_eq bank log (key.IdOf path))
    → (id_at path typeprefix (bank (key.IdOf path)), after) ≡ run key_eq (id_of path) bank log
id-run bank path log after typeprefix h =
    let answer = bank (key.IdOf path) in
    let identity = identity_in typeprefix answer in
    let known_is : run key_eq (known path) bank log ≡ (identity, after) =
    run-and_then_at key_eq (typeprefix_around path) (λ p. Done (identity_in p answer)) bank (noted key_eq bank log (key.IdOf path)) typeprefix after h in
    sym (run-and_then_at key_eq (known path) (λ d. Done (told_of path d)) bank log identity after (sym known_is))

-- a key that is logged stays so, and is not noted again
logged-one : (bank : Key → Option Answer) (log : List (Key × Option Answer)) (k j : Key) → is_logged key_eq log k ≡ true → is_logged key_eq (noted key_eq bank log j) k ≡ true
logged-one bank log k j h = by (is_logged key_eq log j)
  where
    by : (b : Bool) → is_logged key_eq (cond b log (log ++ (j, bank j) ∷ [])) k ≡ true
    by true = h
    by false =
        list_any-append (λ (e : Key × Option Answer). key_eq k e.0) log ((j, bank j) ∷ [])
        ∙ ap (λ b. b || is_logged key_eq ((j, bank j) ∷ []) k) h

logged-all : (bank : Key → Option Answer) (log : List (Key × Option Answer)) (k : Key) (ks : List Key) → is_logged key_eq log k ≡ true → is_logged key_eq (noted_all key_eq bank log ks) k ≡ true
logged-all bank log k [] h = h
logged-all bank log k (j ∷ ks) h = logged-all bank (noted key_eq bank log j) k ks (logged-one bank log k j h)

logged-here : (bank : Key → Option Answer) (log : List (Key × Option Answer)) (k : Key) → is_logged key_eq (noted key_eq bank log k) k ≡ true
logged-here bank log k = by (is_logged key_eq log k) refl
  where
    by : (b : Bool) → is_logged key_eq log k ≡ b → is_logged key_eq (cond b log (log ++ (k, bank k) ∷ [])) k ≡ true
    by true h = h
    by false h =
        let last : is_logged key_eq ((k, bank k) ∷ []) k ≡ true = ap (λ b. b || false) (key_equiv.refl k) in
        list_any-append (λ (e : Key × Option Answer). key_eq k e.0) log ((k, bank k) ∷ [])
        ∙ ap (λ b. b || is_logged key_eq ((k, bank k) ∷ []) k) h ∙ last

abbrev AreLogged : List (Key × Option Answer) → List Key → Type 0
AreLogged log ks = All (λ k. is_logged key_eq log k ≡ true) ks

are-logged : (bank : Key → Option Answer) (log : List (Key × Option Answer)) (ks : List Key) → AreLogged (noted_all key_eq bank log ks) ks
are-logged bank log [] = All-nil (λ k. is_logged key_eq log k ≡ true)
are-logged bank log (k ∷ ks) =
    let more = noted key_eq bank log k in
    All-cons (λ j. is_logged key_eq (noted_all key_eq bank more ks) j ≡ true) k ks (logged-all bank more k ks (logged-here bank log k)) (are-logged bank more ks)

noted-there : (bank : Key → Option Answer) (log : List (Key × Option Answer)) (ks : List Key) → AreLogged log ks → noted_all key_eq bank log ks ≡ log
noted-there bank log [] h = refl
noted-there bank log (k ∷ ks) h =
    let Known : Key → Type 0 = λ j. is_logged key_eq log j ≡ true in
    ap (λ b. noted_all key_eq bank (cond b log (log ++ (k, bank k) ∷ [])) ks) (All-head Known k ks h) ∙ noted-there bank log ks (All-tail Known k ks h)

-- an id that was asked already
pub grows-known : {facts : List UnitFacts} {path : List (List ℕ)} {told old new : List ℕ} {after : List (Key × Option Answer)} (log : List (Key × Option Answer)) → new ≡ old ++ told → (told, after) ≡ run key_eq (id_of path) (answers facts) log → Grows (IdOf path ∷ []) (facts, (old, after)) (facts, (new, after))
grows-known {facts} {path} {told} {old} {new} {after} log e is =
    let bank = answers facts in
    let ks = asked_of bank path in
    let logged : after ≡ noted_all key_eq bank log ks = ap (λ (r : List ℕ × List (Key × Option Answer)). r.1) is in
    let again : noted_all key_eq bank after ks ≡ after = noted-there bank after ks (subst (λ l. AreLogged l ks) (sym logged) (are-logged bank log ks)) in
    grows-id e (λ i. ((ap (λ (r : List ℕ × List (Key × Option Answer)). r.0) is) i, sym again i))

-- the same pieces
pub grows-as : {p q : Pieces} {s t : State} → p ≡ q → Grows p s t → Grows q s t
grows-as {p} {q} {s} {t} e h = rw e at h

-- those of one more
pub grows-more : {X : Type 0} {s t u : State} (f : X → Pieces) (xs : List X) (i : ℕ) (x : X) → i < length xs → x ≡ get_or xs i x → Grows (flat_map f (take i xs)) s t → Grows (f x) t u → Grows (flat_map f (take (i + 1) xs)) s u
grows-more {X} {s} {t} {u} f xs i x within is before this =
    let more : flat_map f (take i xs) ++ f x ≡ flat_map f (take (i + 1) xs) = flat_map_more f [] (take i xs) x ∙ ap (λ y. flat_map f (take i xs ++ y ∷ [])) is ∙ ap (flat_map f) (sym (take_more xs i x within)) in
    grows-as more (grows-then before this)

-- and those of all
pub grows-whole : {X : Type 0} {s t : State} (f : X → Pieces) (xs : List X) (i : ℕ) → length xs ≤ i → Grows (flat_map f (take i xs)) s t → Grows (flat_map f xs) s t
grows-whole f xs i h before = grows-as (ap (flat_map f) (take_all i xs h)) before

-- none of several
pub grows-no_commas : {X : Type 0} {s : State} (f : X → Pieces) (xs : List X) → length xs < 1 → Grows (commas f xs) s s
grows-no_commas f [] h = grows-nothing
grows-no_commas f (x ∷ xs) h = absurd (omega arith)

-- the first of several, and then the others, as a slice without its first holds them
tail-kept : {X : Type 0} (xs : List X) → 1 ≤ length xs → take (length xs - 1) (drop 1 xs) ≡ drop 1 xs
tail-kept [] h = absurd (omega arith)
tail-kept (x ∷ xs) h = take_all (length (x ∷ xs) - 1) xs (omega arith)

commas-cons : {X : Type 0} (f : X → Pieces) (xs : List X) (x : X) → 1 ≤ length xs → x ≡ get_or xs 0 x → f x ++ flat_map (λ y. Says (codes ",") ∷ f y) (drop 1 xs) ≡ commas f xs
commas-cons f [] x h is = absurd (omega arith)
commas-cons f (y ∷ ys) x h is = ap (λ z. f z ++ flat_map (λ y. Says (codes ",") ∷ f y) ys) is

pub grows-commas : {X : Type 0} {s t u : State} (f : X → Pieces) (xs : List X) (x : X) (i : ℕ) → 1 ≤ length xs → x ≡ get_or xs 0 x → length (take (length xs - 1) (drop 1 xs)) ≤ i → Grows (f x) s t → Grows (flat_map (λ y. Says (codes ",") ∷ f y) (take i (take (length xs - 1) (drop 1 xs)))) t u → Grows (commas f xs) s u
grows-commas {X} {s} {t} {u} f xs x i some is past first others =
    let rest : Grows (flat_map (λ y. Says (codes ",") ∷ f y) (drop 1 xs)) t u = grows-as (ap (flat_map (λ y. Says (codes ",") ∷ f y)) (tail-kept xs some)) (grows-whole (λ y. Says (codes ",") ∷ f y) (take (length xs - 1) (drop 1 xs)) i past others) in
    grows-as (commas-cons f xs x some is) (grows-then first rest)

-- what comes of a query that writes them
pub written-over : (bank : Key → Option Answer) (text : List ℕ) (p : Pieces) → outcome (written text p) bank ≡ text ++ text_over bank p
unfolding written text_over
written-over bank text [] = sym (append-nil text)
written-over bank text (Says more ∷ p) = written-over bank (text ++ more) p ∙ append_assoc text more (text_over bank p)
written-over bank text (IdOf path ∷ p) =
    let id = outcome (id_of path) bank in
    outcome-and_then (id_of path) (λ id. written (text ++ id) p) bank ∙ written-over bank (text ++ id) p ∙ append_assoc text id (text_over bank p)

-- and what it asks
pub asked-by-written : (bank : Key → Option Answer) (text : List ℕ) (p : Pieces) → asked (written text p) bank ≡ ids_in bank p
unfolding written ids_in
asked-by-written bank text [] = refl
asked-by-written bank text (Says more ∷ p) = asked-by-written bank (text ++ more) p
asked-by-written bank text (IdOf path ∷ p) =
    asked-and_then (id_of path) (λ id. written (text ++ id) p) bank ∙ ap (λ x. asked_of bank path ++ x) (asked-by-written bank (text ++ outcome (id_of path) bank) p)

-- pieces that are written between what was taken and what is given back
pub grows-between : {facts : List UnitFacts} {p : Pieces} {old new : List ℕ} {log after : List (Key × Option Answer)} (s t : State) → s.0 ≡ facts → s.1.0 ≡ old → s.1.1 ≡ log → new ≡ t.1.0 → after ≡ t.1.1 → Grows p s t
    → (new ≡ old ++ text_over (answers facts) p) × (after ≡ noted_all key_eq (answers facts) log (ids_in (answers facts) p))
grows-between {p} s t facts_are text_is log_is new_is after_is h = (
  new_is ∙ h.text ∙ (λ i. text_is i ++ text_over (answers (facts_are i)) p),
  after_is ∙ h.log ∙ (λ i. noted_all key_eq (answers (facts_are i)) (log_is i) (ids_in (answers (facts_are i)) p)),
)

-- what grows where there is memory
pub grown-on_ok : {T E : Type 0} {new : List ℕ} (full left : List ℕ) (r : Result T E) → new ≡ (if is_ok r then full else left) → OnOk r (new ≡ full)
grown-on_ok full left (Ok x) e = e
grown-on_ok full left (Err x) e = tt
