-- Events whose tokens stand apart: one more, and the walk over them.
use Rattle.std.proofs.Common.{◌≡◌, ◌≢◌, ◌∙◌, ℕ, zero, suc, ◌+◌, ◌-◌, ◌<◌, ◌≤◌, List, [], ◌∷◌, ◌++◌, None, Some, slice_get, length, drop, map, refl, sym, ap, subst, subst₂, arith, append_assoc, append-nil}
use Rattle.std.specs.Prelude.{flat_map}
use Rattle.std.specs.List.{enumerate_from, fold}
use Rattle.std.proofs.lemmas.List.{drop_at, drop-drop, length-append, take_at}
use Rattle.std.proofs.lemmas.List.Sums.{fold-append}
use Rattle.idl_event.specs.Apart.{AreApart, ArePassed, Numbered, StandApart, TokensFirst, emitted, events_from, other_in, others_in, place_in, emitted_in, site_at, site_in, sites_in, text_sites, token_in, tokens_in, with_event, woven}
use Rattle.idl_event.specs.declared.told.event.Event.{Event}
use Rattle.idl_event.specs.declared.told.event.Event.TheVariants as event
use Rattle.idl_fault.specs.declared.place.Place.{Place}
use Rattle.idl_event.specs.declared.told.site.Site.{Site}
use Rattle.idl_fault.specs.declared.file_name.FileName.{FileName}
use Rattle.idl_lex.specs.tokens.Tokens.{Token}
use Rattle.idl_lex.specs.tokens.Tokens as lexed
use Rattle.idl_lex.specs.declared.tokens.token.PlacedToken.{PlacedToken}

-- what is gathered of events, with one more
gathered-push : {A : Type 0} (f : Numbered → List A) (n : ℕ) (events : List Event) (e : Event)
    → flat_map f (enumerate_from n (events ++ e ∷ [])) ≡ flat_map f (enumerate_from n events) ++ f (n + length events, e)
gathered-push f n [] e = let last : n ≡ n + 0 = omega arith in append-nil (f (n, e)) ∙ ap (λ k. f (k, e)) last
gathered-push f n (x ∷ events) e =
    let front = flat_map f (enumerate_from (n + 1) events) in
    let last : n + 1 + length events ≡ n + suc (length events) = omega arith in
    ap (λ l. f (n, x) ++ l) (gathered-push f (n + 1) events e ∙ ap (λ k. front ++ f (k, e)) last)
    ∙ sym (append_assoc (f (n, x)) front (f (n + suc (length events), e)))

gathered-last : {A : Type 0} (f : Numbered → List A) (events : List Event) (e : Event)
    → flat_map f (enumerate_from 0 (events ++ e ∷ [])) ≡ flat_map f (enumerate_from 0 events) ++ f (length events, e)
gathered-last f events e =
    let last : 0 + length events ≡ length events = omega arith in
    gathered-push f 0 events e ∙ ap (λ k. flat_map f (enumerate_from 0 events) ++ f (k, e)) last

apart-push : (sites : List Site) (tokens : List Token) (others : List Numbered) (events : List Event) (e : Event) → AreApart sites tokens others (enumerate_from 0 events)
    → AreApart (sites ++ site_in (length events, e)) (tokens ++ token_in (length events, e)) (others ++ other_in (length events, e)) (enumerate_from 0 (events ++ e ∷ []))
apart-push sites tokens others events e a = record {
  are_sites = ap (λ l. l ++ site_in (length events, e)) a.are_sites ∙ sym (gathered-last site_in events e);
  are_tokens = ap (λ l. l ++ token_in (length events, e)) a.are_tokens ∙ sym (gathered-last token_in events e);
  are_others = ap (λ l. l ++ other_in (length events, e)) a.are_others ∙ sym (gathered-last other_in events e);
}

-- each token has one site
pub length-sites_in : (events : List Numbered) → length (sites_in events) ≡ length (tokens_in events)
length-sites_in [] = refl
length-sites_in ((n, event.Emitted place token) ∷ events) = ap suc (length-sites_in events)
length-sites_in ((n, event.Entered file) ∷ events) = length-sites_in events
length-sites_in ((n, event.Left file) ∷ events) = length-sites_in events
length-sites_in ((n, event.Pragma place tokens) ∷ events) = length-sites_in events
length-sites_in ((n, event.Fault place code text) ∷ events) = length-sites_in events

-- each event is a token or another one
length-parts : (n : ℕ) (events : List Event) → length (sites_in (enumerate_from n events)) + length (others_in (enumerate_from n events)) ≡ length events
length-parts n [] = refl
length-parts n (event.Emitted place token ∷ events) = omega (arith, length-parts (n + 1) events)
length-parts n (event.Entered file ∷ events) = omega (arith, length-parts (n + 1) events)
length-parts n (event.Left file ∷ events) = omega (arith, length-parts (n + 1) events)
length-parts n (event.Pragma place tokens ∷ events) = omega (arith, length-parts (n + 1) events)
length-parts n (event.Fault place code text ∷ events) = omega (arith, length-parts (n + 1) events)

length-apart : (sites : List Site) (tokens : List Token) (others : List Numbered) (events : List Event) → AreApart sites tokens others (enumerate_from 0 events)
    → (length sites ≡ length tokens) × (length sites + length others ≡ length events)
length-apart sites tokens others events a = (
  ap length a.are_sites ∙ length-sites_in (enumerate_from 0 events) ∙ sym (ap length a.are_tokens),
  omega (arith, ap length a.are_sites, ap length a.are_others, length-parts 0 events),
)

emitted-push : (sites : List Site) (tokens : List Token) (site : Site) (token : Token) → length sites ≡ length tokens
    → emitted (sites ++ site ∷ []) (tokens ++ token ∷ []) ≡ emitted sites tokens ++ event.Emitted (place_in site) token ∷ []
emitted-push [] [] site token long = refl
emitted-push [] (t ∷ tokens) site token long = absurd (omega (arith, long))
emitted-push (s ∷ sites) [] site token long = absurd (omega (arith, long))
emitted-push (s ∷ sites) (t ∷ tokens) site token long = ap (λ l. event.Emitted (place_in s) t ∷ l) (emitted-push sites tokens site token (omega (arith, long)))

-- a token put last
pub woven-token : (sites : List Site) (tokens : List Token) (others : List Numbered) (n : ℕ) (place : Place) (token : Token) → StandApart sites tokens others
    → n ≡ length sites + length others
    → (woven (sites ++ site_at n place ∷ []) (tokens ++ token ∷ []) others ≡ woven sites tokens others ++ event.Emitted place token ∷ [])
    × StandApart (sites ++ site_at n place ∷ []) (tokens ++ token ∷ []) others
woven-token sites tokens others n place token s is =
    let events = woven sites tokens others in
    let e = event.Emitted place token in
    let lengths = length-apart sites tokens others events s.all in
    let number : length events ≡ n = sym (is ∙ lengths.1) in
    let more_emitted = emitted-push sites tokens (site_at n place) token lengths.0 in
    let put : woven (sites ++ site_at n place ∷ []) (tokens ++ token ∷ []) others ≡ events ++ e ∷ [] =
    ap (λ es. fold with_event es others) more_emitted ∙ s.later (e ∷ []) in
    let pushed = apart-push sites tokens others events e s.all in
    let apart : AreApart (sites ++ site_at n place ∷ []) (tokens ++ token ∷ []) others (enumerate_from 0 (events ++ e ∷ [])) = record {
      are_sites = ap (λ k. sites ++ site_at k place ∷ []) (sym number) ∙ pushed.are_sites;
      are_tokens = pushed.are_tokens;
      are_others = sym (append-nil others) ∙ pushed.are_others;
    } in (
      put,
      record {
        all = subst (λ es. AreApart (sites ++ site_at n place ∷ []) (tokens ++ token ∷ []) others (enumerate_from 0 es)) (sym put) apart;
        later = λ more.
            ap (λ es. fold with_event (es ++ more) others) more_emitted
            ∙ ap (λ es. fold with_event es others) (append_assoc (emitted sites tokens) (e ∷ []) more)
            ∙ s.later (e ∷ more)
            ∙ sym (append_assoc events (e ∷ []) more)
            ∙ ap (λ es. es ++ more) (sym put);
      },
    )

-- tokens of a file's text put last
pub woven-text : (sites : List Site) (tokens : List Token) (others : List Numbered) (n : ℕ) (file : FileName) (more : List PlacedToken) → StandApart sites tokens others
    → n ≡ length sites + length others
    → (woven (sites ++ text_sites n file more) (tokens ++ lexed.tokens_in more) others ≡ woven sites tokens others ++ map (emitted_in file) more)
    × StandApart (sites ++ text_sites n file more) (tokens ++ lexed.tokens_in more) others
woven-text sites tokens others n file [] s is =
    let ss = append-nil sites in
    let ts = append-nil tokens in (
      (λ j. woven (ss j) (ts j) others) ∙ sym (append-nil (woven sites tokens others)),
      subst₂ (λ a b. StandApart a b others) (sym ss) (sym ts) s,
    )
woven-text sites tokens others n file (t ∷ more) s is =
    let place : Place = record { file = file; line = t.line } in
    let site = site_at n place in
    let one = woven-token sites tokens others n place t.token s is in
    let longer : n + 1 ≡ length (sites ++ site ∷ []) + length others = omega (arith, is, length-append sites (site ∷ [])) in
    let rest = woven-text (sites ++ site ∷ []) (tokens ++ t.token ∷ []) others (n + 1) file more one.1 longer in
    let ss = append_assoc sites (site ∷ []) (text_sites (n + 1) file more) in
    let ts = append_assoc tokens (t.token ∷ []) (lexed.tokens_in more) in (
      sym (λ j. woven (ss j) (ts j) others)
          ∙ rest.0
          ∙ ap (λ es. es ++ map (emitted_in file) more) one.0
          ∙ append_assoc (woven sites tokens others) (emitted_in file t ∷ []) (map (emitted_in file) more),
      subst₂ (λ a b. StandApart a b others) ss ts rest.1,
    )

with_event-last : (events more : List Event) (n : ℕ) (e : Event) → length events ≡ n → with_event (events ++ more) (n, e) ≡ (events ++ e ∷ []) ++ more
with_event-last events more n e long =
    ap (λ es. es ++ e ∷ drop n (events ++ more)) (take_at events more n long)
    ∙ ap (λ es. events ++ e ∷ es) (drop_at events more n long)
    ∙ sym (append_assoc events (e ∷ []) more)

-- what an event is that is no token
record IsOther (n : ℕ) (e : Event) : Type 0 where
  no_site : site_in (n, e) ≡ []
  no_token : token_in (n, e) ≡ []
  itself : other_in (n, e) ≡ (n, e) ∷ []

is_other : (n : ℕ) (e : Event) → ((place : Place) (token : Token) → e ≢ event.Emitted place token) → IsOther n e
is_other n (event.Emitted place token) none = absurd (none place token refl)
is_other n (event.Entered file) none = record { no_site = refl; no_token = refl; itself = refl }
is_other n (event.Left file) none = record { no_site = refl; no_token = refl; itself = refl }
is_other n (event.Pragma place tokens) none = record { no_site = refl; no_token = refl; itself = refl }
is_other n (event.Fault place code text) none = record { no_site = refl; no_token = refl; itself = refl }

-- another event put last
pub woven-other : (sites : List Site) (tokens : List Token) (others : List Numbered) (n : ℕ) (e : Event) → StandApart sites tokens others
    → n ≡ length sites + length others → ((place : Place) (token : Token) → e ≢ event.Emitted place token)
    → (woven sites tokens (others ++ (n, e) ∷ []) ≡ woven sites tokens others ++ e ∷ []) × StandApart sites tokens (others ++ (n, e) ∷ [])
woven-other sites tokens others n e s is none =
    let other = is_other n e none in
    let events = woven sites tokens others in
    let lengths = length-apart sites tokens others events s.all in
    let number : length events ≡ n = sym (is ∙ lengths.1) in
    let later : (more : List Event) → fold with_event (emitted sites tokens ++ more) (others ++ (n, e) ∷ []) ≡ (events ++ e ∷ []) ++ more = λ more.
    fold-append with_event (emitted sites tokens ++ more) others ((n, e) ∷ [])
    ∙ ap (λ es. with_event es (n, e)) (s.later more)
    ∙ with_event-last events more n e number in
    let put : woven sites tokens (others ++ (n, e) ∷ []) ≡ events ++ e ∷ [] =
    ap (λ es. fold with_event es (others ++ (n, e) ∷ [])) (sym (append-nil (emitted sites tokens))) ∙ later [] ∙ append-nil (events ++ e ∷ []) in
    let pushed = apart-push sites tokens others events e s.all in
    let apart : AreApart sites tokens (others ++ (n, e) ∷ []) (enumerate_from 0 (events ++ e ∷ [])) = record {
      are_sites = sym (ap (λ k. sites ++ site_in (k, e)) number ∙ ap (λ l. sites ++ l) other.no_site ∙ append-nil sites) ∙ pushed.are_sites;
      are_tokens = sym (ap (λ k. tokens ++ token_in (k, e)) number ∙ ap (λ l. tokens ++ l) other.no_token ∙ append-nil tokens) ∙ pushed.are_tokens;
      are_others = sym (ap (λ k. others ++ other_in (k, e)) number ∙ ap (λ l. others ++ l) other.itself) ∙ pushed.are_others;
    } in (
      put,
      record {
        all = subst (λ es. AreApart sites tokens (others ++ (n, e) ∷ []) (enumerate_from 0 es)) (sym put) apart;
        later = λ more. later more ∙ ap (λ es. es ++ more) (sym put);
      },
    )

-- the number of the first
first_number : List Numbered → ℕ
first_number [] = 0
first_number ((n, e) ∷ events) = n

first_event : Event → List Numbered → Event
first_event d [] = d
first_event d ((n, e) ∷ events) = e

-- others are numbered from that of the first event on
others-above : (m n : ℕ) (rest : List Event) (e : Event) (others : List Numbered) → (n, e) ∷ others ≡ others_in (enumerate_from m rest) → m ≤ n
unfolding first_number
others-above m n [] e others is = cc
others-above m n (event.Emitted place token ∷ rest) e others is = let above : m + 1 ≤ n = others-above (m + 1) n rest e others is in omega (arith, above)
others-above m n (event.Entered file ∷ rest) e others is = let same : n ≡ m = ap first_number is in omega (arith, same)
others-above m n (event.Left file ∷ rest) e others is = let same : n ≡ m = ap first_number is in omega (arith, same)
others-above m n (event.Pragma place tokens ∷ rest) e others is = let same : n ≡ m = ap first_number is in omega (arith, same)
others-above m n (event.Fault place code text ∷ rest) e others is = let same : n ≡ m = ap first_number is in omega (arith, same)

-- where these stand apart from the rest, an event comes first, and these stand apart from the others
abbrev Comes : ℕ → List Event → Event → List Site → List Token → List Numbered → Type 0
Comes n rest e sites tokens others = (next : List Event) × ((rest ≡ e ∷ next) × AreApart sites tokens others (enumerate_from (n + 1) next))

-- no other event comes first
abbrev pub IsNoOther : ℕ → List Numbered → Type 0
IsNoOther n others = (e : Event) (rest : List Numbered) → others ≢ (n, e) ∷ rest

comes-that : (n : ℕ) (next : List Event) (e f : Event) (sites : List Site) (tokens : List Token) (others : List Numbered)
    → sites ≡ sites_in (enumerate_from (n + 1) next) → tokens ≡ tokens_in (enumerate_from (n + 1) next) → (n, e) ∷ others ≡ (n, f) ∷ others_in (enumerate_from (n + 1) next)
    → Comes n (f ∷ next) e sites tokens others
unfolding first_event
comes-that n next e f sites tokens others are_sites are_tokens is =
    let same : f ≡ e = sym (ap (first_event f) is) in
    let rest : others ≡ others_in (enumerate_from (n + 1) next) = cc in
    (next, (ap (λ x. x ∷ next) same, record { are_sites = are_sites; are_tokens = are_tokens; are_others = rest }))

comes-other : (n : ℕ) (rest : List Event) (e : Event) (sites : List Site) (tokens : List Token) (others : List Numbered)
    → AreApart sites tokens ((n, e) ∷ others) (enumerate_from n rest) → Comes n rest e sites tokens others
comes-other n [] e sites tokens others a = absurd (let is = a.are_others in cc)
comes-other n (event.Emitted place token ∷ next) e sites tokens others a = absurd (omega (arith, others-above (n + 1) n next e others a.are_others))
comes-other n (event.Entered file ∷ next) e sites tokens others a = comes-that n next e (event.Entered file) sites tokens others a.are_sites a.are_tokens a.are_others
comes-other n (event.Left file ∷ next) e sites tokens others a = comes-that n next e (event.Left file) sites tokens others a.are_sites a.are_tokens a.are_others
comes-other n (event.Pragma place text ∷ next) e sites tokens others a = comes-that n next e (event.Pragma place text) sites tokens others a.are_sites a.are_tokens a.are_others
comes-other n (event.Fault place code text ∷ next) e sites tokens others a = comes-that n next e (event.Fault place code text) sites tokens others a.are_sites a.are_tokens a.are_others

comes-token : (n : ℕ) (rest : List Event) (site : Site) (token : Token) (sites : List Site) (tokens : List Token) (others : List Numbered) → IsNoOther n others
    → AreApart (site ∷ sites) (token ∷ tokens) others (enumerate_from n rest) → Comes n rest (event.Emitted (place_in site) token) sites tokens others
comes-token n [] site token sites tokens others none a = absurd (let is = a.are_sites in cc)
comes-token n (event.Emitted place t ∷ next) site token sites tokens others none a =
    let are_sites : site ∷ sites ≡ site_at n place ∷ sites_in (enumerate_from (n + 1) next) = a.are_sites in
    let are_tokens : token ∷ tokens ≡ t ∷ tokens_in (enumerate_from (n + 1) next) = a.are_tokens in
    let at : site ≡ site_at n place = cc in
    let same : t ≡ token = cc in
    let rest_sites : sites ≡ sites_in (enumerate_from (n + 1) next) = cc in
    let rest_tokens : tokens ≡ tokens_in (enumerate_from (n + 1) next) = cc in (
      next,
      (
        ap (λ p. event.Emitted p t ∷ next) (sym (ap place_in at)) ∙ ap (λ u. event.Emitted (place_in site) u ∷ next) same,
        record { are_sites = rest_sites; are_tokens = rest_tokens; are_others = a.are_others },
      ),
    )
comes-token n (event.Entered file ∷ next) site token sites tokens others none a = absurd (none (event.Entered file) _ a.are_others)
comes-token n (event.Left file ∷ next) site token sites tokens others none a = absurd (none (event.Left file) _ a.are_others)
comes-token n (event.Pragma place text ∷ next) site token sites tokens others none a = absurd (none (event.Pragma place text) _ a.are_others)
comes-token n (event.Fault place code text ∷ next) site token sites tokens others none a = absurd (none (event.Fault place code text) _ a.are_others)

comes-none : (n : ℕ) (rest : List Event) (tokens : List Token) (others : List Numbered) → IsNoOther n others → AreApart [] tokens others (enumerate_from n rest) → rest ≡ []
comes-none n [] tokens others none a = refl
comes-none n (event.Emitted place t ∷ next) tokens others none a = absurd (let is = a.are_sites in cc)
comes-none n (event.Entered file ∷ next) tokens others none a = absurd (none (event.Entered file) _ a.are_others)
comes-none n (event.Left file ∷ next) tokens others none a = absurd (none (event.Left file) _ a.are_others)
comes-none n (event.Pragma place text ∷ next) tokens others none a = absurd (none (event.Pragma place text) _ a.are_others)
comes-none n (event.Fault place code text ∷ next) tokens others none a = absurd (none (event.Fault place code text) _ a.are_others)

comes-no_token : (n : ℕ) (rest : List Event) (sites : List Site) (others : List Numbered) → IsNoOther n others → AreApart sites [] others (enumerate_from n rest) → rest ≡ []
comes-no_token n [] sites others none a = refl
comes-no_token n (event.Emitted place t ∷ next) sites others none a = absurd (let is = a.are_tokens in cc)
comes-no_token n (event.Entered file ∷ next) sites others none a = absurd (none (event.Entered file) _ a.are_others)
comes-no_token n (event.Left file ∷ next) sites others none a = absurd (none (event.Left file) _ a.are_others)
comes-no_token n (event.Pragma place text ∷ next) sites others none a = absurd (none (event.Pragma place text) _ a.are_others)
comes-no_token n (event.Fault place code text ∷ next) sites others none a = absurd (none (event.Fault place code text) _ a.are_others)

drop-some : {X : Type 0} (xs : List X) (k : ℕ) (x : X) → slice_get xs k ≡ Some x → drop k xs ≡ x ∷ drop (k + 1) xs
drop-some [] k x at = cc
drop-some (y ∷ xs) zero x at = let same : y ≡ x = cc in ap (λ z. z ∷ xs) same
drop-some (y ∷ xs) (suc k) x at = let more : suc (k + 1) ≡ suc k + 1 = omega arith in drop-some xs k x at ∙ ap (λ j. x ∷ drop j (y ∷ xs)) more

drop-none : {X : Type 0} (xs : List X) (k : ℕ) → slice_get xs k ≡ None → drop k xs ≡ []
drop-none [] zero at = refl
drop-none [] (suc k) at = refl
drop-none (y ∷ xs) zero at = cc
drop-none (y ∷ xs) (suc k) at = drop-none xs k at

-- a place of a list is within it
within-some : {X : Type 0} (xs : List X) (k : ℕ) (x : X) → slice_get xs k ≡ Some x → k + 1 ≤ length xs
within-some [] k x at = cc
within-some (y ∷ xs) zero x at = omega arith
within-some (y ∷ xs) (suc k) x at = omega (arith, within-some xs k x at)

drop-next : {X : Type 0} (xs : List X) (n : ℕ) (x : X) (next : List X) → drop n xs ≡ x ∷ next → next ≡ drop (n + 1) xs
drop-next xs n x next is = sym (ap (drop 1) is) ∙ drop-drop 1 n xs

none-other : (others : List Numbered) (n k : ℕ) → ((e : Event) → slice_get others k ≢ Some (n, e)) → IsNoOther n (drop k others)
none-other [] n zero none e rest is = cc
none-other [] n (suc k) none e rest is = cc
none-other (o ∷ others) n zero none e rest is = none e (let same : o ≡ (n, e) = cc in ap Some same)
none-other (o ∷ others) n (suc k) none e rest is = none-other others n k none e rest is

module _ (sites : List Site) (tokens : List Token) (others : List Numbered) (i k : ℕ) (passed : ArePassed sites tokens others i k) where
  abbrev events : List Event
  events = woven sites tokens others

  -- the next event is no token
  pub passed-other : (e : Event) → slice_get others k ≡ Some (i + k, e)
      → (events_from (i + k) events ≡ (i + k, e) ∷ events_from (i + (k + 1)) events) × ArePassed sites tokens others i (k + 1)
  passed-other e at =
      let left = subst (λ os. AreApart (drop i sites) (drop i tokens) os (events_from (i + k) events)) (drop-some others k (i + k, e) at) passed.left in
      let comes = comes-other (i + k) (drop (i + k) events) e (drop i sites) (drop i tokens) (drop (k + 1) others) left in
      let rest = drop-next events (i + k) e comes.0 comes.1.0 in
      let number : i + k + 1 ≡ i + (k + 1) = omega arith in
      let after = ap (enumerate_from (i + k + 1)) rest ∙ ap (λ n. events_from n events) number in (
        ap (enumerate_from (i + k)) comes.1.0 ∙ ap (λ es. (i + k, e) ∷ es) after,
        record {
          tokens_within = passed.tokens_within;
          others_within = within-some others k (i + k, e) at;
          left = subst (AreApart (drop i sites) (drop i tokens) (drop (k + 1) others)) after comes.1.1;
        },
      )

  -- it is a token
  pub passed-token : (site : Site) (token : Token) → ((e : Event) → slice_get others k ≢ Some (i + k, e)) → slice_get sites i ≡ Some site → slice_get tokens i ≡ Some token
      → (events_from (i + k) events ≡ (i + k, event.Emitted (place_in site) token) ∷ events_from (i + 1 + k) events) × ArePassed sites tokens others (i + 1) k
  passed-token site token none at_site at_token =
      let left = subst (λ ts. AreApart (site ∷ drop (i + 1) sites) ts (drop k others) (events_from (i + k) events)) (drop-some tokens i token at_token)
      (subst (λ ss. AreApart ss (drop i tokens) (drop k others) (events_from (i + k) events)) (drop-some sites i site at_site) passed.left) in
      let comes = comes-token (i + k) (drop (i + k) events) site token (drop (i + 1) sites) (drop (i + 1) tokens) (drop k others) (none-other others (i + k) k none) left in
      let e = event.Emitted (place_in site) token in
      let rest = drop-next events (i + k) e comes.0 comes.1.0 in
      let number : i + k + 1 ≡ i + 1 + k = omega arith in
      let after = ap (enumerate_from (i + k + 1)) rest ∙ ap (λ n. events_from n events) number in (
        ap (enumerate_from (i + k)) comes.1.0 ∙ ap (λ es. (i + k, e) ∷ es) after,
        record {
          tokens_within = within-some tokens i token at_token;
          others_within = passed.others_within;
          left = subst (AreApart (drop (i + 1) sites) (drop (i + 1) tokens) (drop k others)) after comes.1.1;
        },
      )

  -- there is none
  pub passed-none : ((e : Event) → slice_get others k ≢ Some (i + k, e)) → slice_get sites i ≡ None → events_from (i + k) events ≡ []
  passed-none none at_site =
      let left = subst (λ ss. AreApart ss (drop i tokens) (drop k others) (events_from (i + k) events)) (drop-none sites i at_site) passed.left in
      ap (enumerate_from (i + k)) (comes-none (i + k) (drop (i + k) events) (drop i tokens) (drop k others) (none-other others (i + k) k none) left)

  pub passed-no_token : ((e : Event) → slice_get others k ≢ Some (i + k, e)) → slice_get tokens i ≡ None → events_from (i + k) events ≡ []
  passed-no_token none at_token =
      let left = subst (λ ts. AreApart (drop i sites) ts (drop k others) (events_from (i + k) events)) (drop-none tokens i at_token) passed.left in
      ap (enumerate_from (i + k)) (comes-no_token (i + k) (drop (i + k) events) (drop i sites) (drop k others) (none-other others (i + k) k none) left)

there : {X : Type 0} (xs : List X) (i : ℕ) → i < length xs → (x : X) × (slice_get xs i ≡ Some x)
there [] i lt = absurd (omega (arith, lt))
there (x ∷ xs) zero lt = (x, refl)
there (x ∷ xs) (suc i) lt = there xs i (omega (arith, lt))

-- tokens are passed by before the next other event
pub passed-tokens : (sites : List Site) (tokens : List Token) (others : List Numbered) (count i k : ℕ) → ArePassed sites tokens others i k
    → ((j : ℕ) (e : Event) → j < count → slice_get others k ≢ Some (i + k + j, e)) → count ≤ length sites - i → count ≤ length tokens - i
    → TokensFirst count (events_from (i + k) (woven sites tokens others)) (events_from (i + count + k) (woven sites tokens others)) × ArePassed sites tokens others (i + count) k
passed-tokens sites tokens others zero i k passed free short long =
    let same : i ≡ i + 0 = omega arith in (
      record { tokens = []; long = refl; alone = refl; all = ap (λ n. events_from (n + k) (woven sites tokens others)) same },
      subst (λ n. ArePassed sites tokens others n k) same passed,
    )
passed-tokens sites tokens others (suc count) i k passed free short long =
    let site = there sites i (omega (arith, short)) in
    let token = there tokens i (omega (arith, long)) in
    let here : i + k ≡ i + k + 0 = omega arith in
    let step = passed-token sites tokens others i k passed site.0 token.0
    (λ e at. free 0 e (omega arith) (at ∙ ap (λ n. Some (n, e)) here)) site.1 token.1 in
    let next : (j : ℕ) → i + 1 + k + j ≡ i + k + (j + 1) = λ j. omega arith in
    let rest = passed-tokens sites tokens others count (i + 1) k step.1
    (λ j e lt at. free (j + 1) e (omega (arith, lt)) (at ∙ ap (λ n. Some (n, e)) (next j))) (omega (arith, short)) (omega (arith, long)) in
    let shift : i + 1 + count ≡ i + suc count = omega arith in
    let x : Numbered = (i + k, event.Emitted (place_in site.0) token.0) in (
      record {
        tokens = x ∷ rest.0.tokens;
        long = ap suc rest.0.long;
        alone = rest.0.alone;
        all =
            step.0
            ∙ ap (λ es. x ∷ es) rest.0.all
            ∙ ap (λ n. x ∷ (rest.0.tokens ++ events_from (n + k) (woven sites tokens others))) shift;
      },
      subst (λ n. ArePassed sites tokens others n k) shift rest.1,
    )
