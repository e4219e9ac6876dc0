-- Two readers that read alike where no more levels are left than they are allowed, and readers made of such.
use Rattle.std.proofs.Common.{◌≡◌, ℕ, zero, suc, ◌+◌, ◌<◌, Bool, true, false, cond, List, [], ◌∷◌, length, drop, Option, Some, None, Result, Ok, Err, refl, ap, subst, ◌∙◌, arith, inl, inr}
use Rattle.idl_tree.specs.Lexeme.{Lexeme}
use Rattle.idl_tree.specs.reading.Levels.{Side, Opening, Closing, Neither, side_of, left_behind, is_within}
use Rattle.idl_tree.specs.reading.Reading.{Reader, ◌>>=◌, first, expect, many_at, many_of}
use Rattle.idl_tree.proofs.Laws.{ok, ok_is, bind_ok, chosen, Only}

-- ---- levels

abbrev pub Within : ℕ → List Lexeme → Type 0
Within levels ts = is_within (Some levels) ts ≡ true

pub within_neither : (levels : ℕ) (t : Lexeme) (ts : List Lexeme) → side_of t ≡ Neither → Within levels (t ∷ ts) → Within levels ts
within_neither levels t ts side w = subst (λ (s : Side). is_within (left_behind s levels) ts ≡ true) side w

pub within_closing : (levels : ℕ) (t : Lexeme) (ts : List Lexeme) → side_of t ≡ Closing → Within levels (t ∷ ts) → Within (suc levels) ts
within_closing levels t ts side w = subst (λ (s : Side). is_within (left_behind s levels) ts ≡ true) side w

-- behind an opening bracket one level less is left
pub record Opened (levels : ℕ) (ts : List Lexeme) : Type 0 where
  pub left : ℕ
  pub is : levels ≡ suc left
  pub within : Within left ts

pub within_opening : (levels : ℕ) (t : Lexeme) (ts : List Lexeme) → side_of t ≡ Opening → Within levels (t ∷ ts) → Opened levels ts
within_opening zero t ts side w = let h : false ≡ true = subst (λ (s : Side). is_within (left_behind s 0) ts ≡ true) side w in absurd cc
within_opening (suc left) t ts side w = record { left = left; is = refl; within = subst (λ (s : Side). is_within (left_behind s (suc left)) ts ≡ true) side w }

-- ---- two readers

-- Where fewer than b levels are left, both read the same, and behind it as many more or fewer are left as e is more or less than b.
pub record Alike (b e : ℕ) {A : Type 0} (r other : Reader A) : Type 0 where
  pub same : (c : ℕ) (ts : List Lexeme) → c < b → Within c ts → r ts ≡ other ts
  pub keeps : (c d : ℕ) (ts : List Lexeme) (x : A) (rest : List Lexeme) → c < b → b + d ≡ e + c → Within c ts → r ts ≡ Ok (x, rest) → Within d rest

-- fewer levels
pub lower : (b : ℕ) {A : Type 0} {r other : Reader A} → Alike (suc b) (suc b) r other → Alike b b r other
lower b both = record {
  same = λ c ts less w. both.same c ts (omega (arith, less)) w;
  keeps = λ c d ts x rest less levels w h. both.keeps c d ts x rest (omega (arith, less)) (omega (arith, levels)) w h;
}

-- where nothing is allowed
pub nothing : {A : Type 0} {r other : Reader A} → Alike 0 0 r other
nothing = record { same = λ c ts less w. absurd (omega (arith, less)); keeps = λ c d ts x rest less levels w h. absurd (omega (arith, less)) }

-- a value that takes no token
pub done : (b : ℕ) {A : Type 0} (a : A) → Alike b b (λ ts. Ok (a, ts)) (λ ts. Ok (a, ts))
done b {A} a = record {
  same = λ c ts less w. refl;
  keeps = λ c d ts x rest less levels w h.
      let levels-are : c ≡ d = omega (arith, levels) in
      let rest-is : ts ≡ rest = ap (λ (p : A × List Lexeme). p.1) (ok_is (a, ts) (x, rest) h) in
      subst (λ (n : ℕ). Within n rest) levels-are (subst (λ (w : List Lexeme). Within c w) rest-is w);
}

-- one reader after another
pub after : (b e : ℕ) {A B : Type 0} {r other : Reader A} (f g : A × List Lexeme → Result (B × List Lexeme) ℕ) → Alike b b r other → ((a : A) → Alike b e (λ ts. f (a, ts)) (λ ts. g (a, ts)))
    → Alike b e (λ ts. r ts >>= f) (λ ts. other ts >>= g)
after b e {A} {B} {r} {other} f g one two = record {
  same = λ c ts less w. goes_on c ts less w (r ts) refl ∙ ap (λ (o : Result (A × List Lexeme) ℕ). o >>= g) (one.same c ts less w);
  keeps = λ c d ts x rest less levels w h.
      let p = bind_ok (r ts) f (x, rest) h in
      (two p.0.0).keeps c d p.0.1 x rest less levels (one.keeps c c ts p.0.0 p.0.1 less refl w p.1) p.2;
}
  where
    goes_on : (c : ℕ) (ts : List Lexeme) → c < b → Within c ts → (o : Result (A × List Lexeme) ℕ) → r ts ≡ o → (o >>= f) ≡ (o >>= g)
    goes_on c ts less w (Ok x) h = (two x.0).same c x.1 less (one.keeps c c ts x.0 x.1 less refl w h)
    goes_on c ts less w (Err k) h = refl

-- the value of a reader
pub valued : (b : ℕ) {A B : Type 0} {r other : Reader A} (f : A → B) → Alike b b r other → Alike b b (λ ts. r ts >>= λ x. Ok (f x.0, x.1)) (λ ts. other ts >>= λ x. Ok (f x.0, x.1))
valued b f one = after b b _ _ one (λ a. done b (f a))

-- ---- a token

-- tokens that pass are of this side
pub record Passes (p : Option Lexeme → Bool) (side : Side) : Type 0 where
  pub some : (t : Lexeme) → p (Some t) ≡ true → side_of t ≡ side
  pub none : p None ≡ false

pub only_passes : {p : Option Lexeme → Bool} {t : Lexeme} {side : Side} → side_of t ≡ side → Only p t → Passes p side
only_passes side-is is = record { some = λ u h. ap side_of (is.only u h) ∙ side-is; none = is.wanted }

-- a token that passed
pub record Passed (p : Option Lexeme → Bool) (ts rest : List Lexeme) : Type 0 where
  pub token : Lexeme
  pub passes : p (Some token) ≡ true
  pub parts : ts ≡ token ∷ rest

pub passed : (p : Option Lexeme → Bool) (ts rest : List Lexeme) → p None ≡ false → expect p ts ≡ Ok rest → Passed p ts rest
passed p [] rest none h = absurd (let g = rw none at h in cc)
passed p (t ∷ ts) rest none h = elim (chosen (p (Some t)) (ok ts) (Err (suc (length ts))) (Ok rest) h) [
  | inl w ↦ record { token = t; passes = w.0; parts = ap (λ (w : List Lexeme). t ∷ w) (ok_is ts rest w.1) }
  | inr w ↦ absurd cc
]

-- what follows a token that passes
module _ (b e b2 : ℕ) {B : Type 0} (p : Option Lexeme → Bool) (f g : Reader B) (both : Alike b2 e f g) (none : p None ≡ false)
    (behind : (c : ℕ) (ts rest : List Lexeme) → c < b → Within c ts → Passed p ts rest → (c2 : ℕ) × (c2 < b2) × Within c2 rest × (b + c2 ≡ b2 + c)) where
  pub behind_token : Alike b e (λ ts. expect p ts >>= f) (λ ts. expect p ts >>= g)
  behind_token = record {
    same = λ c ts less w. goes_on c ts less w (expect p ts) refl;
    keeps = λ c d ts x rest less levels w h.
        let q = bind_ok (expect p ts) f (x, rest) h in
        let l = behind c ts q.0 less w (passed p ts q.0 none q.1) in
        both.keeps l.0 d q.0 x rest l.1 (omega (arith, levels, l.3)) l.2 q.2;
  }
    where
      goes_on : (c : ℕ) (ts : List Lexeme) → c < b → Within c ts → (o : Result (List Lexeme) ℕ) → expect p ts ≡ o → (o >>= f) ≡ (o >>= g)
      goes_on c ts less w (Ok rest) h = let l = behind c ts rest less w (passed p ts rest none h) in both.same l.0 rest l.1 l.2
      goes_on c ts less w (Err k) h = refl

-- behind one that is no bracket
pub beside : (b e : ℕ) {B : Type 0} {p : Option Lexeme → Bool} {f g : Reader B} → Passes p Neither → Alike b e f g → Alike b e (λ ts. expect p ts >>= f) (λ ts. expect p ts >>= g)
beside b e {B} {p} {f} {g} is both = behind_token b e b p f g both is.none
    (λ c ts rest less w t. (c, less, within_neither c t.token rest (is.some t.token t.passes) (subst (Within c) t.parts w), omega arith))

-- behind one that opens
pub opening : (b e : ℕ) {B : Type 0} {p : Option Lexeme → Bool} {f g : Reader B} → Passes p Opening → Alike b e f g → Alike (suc b) e (λ ts. expect p ts >>= f) (λ ts. expect p ts >>= g)
opening b e {B} {p} {f} {g} is both = behind_token (suc b) e b p f g both is.none
    (λ c ts rest less w t. let o = within_opening c t.token rest (is.some t.token t.passes) (subst (Within c) t.parts w) in (o.left, omega (arith, less, o.is), o.within, omega (arith, o.is)))

-- behind one that closes
pub closing : (b e : ℕ) {B : Type 0} {p : Option Lexeme → Bool} {f g : Reader B} → Passes p Closing → Alike (suc b) e f g → Alike b e (λ ts. expect p ts >>= f) (λ ts. expect p ts >>= g)
closing b e {B} {p} {f} {g} is both = behind_token b e (suc b) p f g both is.none
    (λ c ts rest less w t. (suc c, omega (arith, less), within_closing c t.token rest (is.some t.token t.passes) (subst (Within c) t.parts w), omega arith))

-- ---- by what stands there

-- whatever is looked at
pub looking : (b e : ℕ) {A X : Type 0} (q : List Lexeme → X) {f g : X → Reader A} → ((x : X) → Alike b e (f x) (g x)) → Alike b e (λ ts. f (q ts) ts) (λ ts. g (q ts) ts)
looking b e q both = record {
  same = λ c ts less w. (both (q ts)).same c ts less w;
  keeps = λ c d ts x rest less levels w h. (both (q ts)).keeps c d ts x rest less levels w h;
}

pub chosen_alike : (b e : ℕ) {A : Type 0} (q : List Lexeme → Bool) {r1 r2 other1 other2 : Reader A} → Alike b e r1 other1 → Alike b e r2 other2
    → Alike b e (λ ts. cond (q ts) (r1 ts) (r2 ts)) (λ ts. cond (q ts) (other1 ts) (other2 ts))
chosen_alike b e {A} q {r1} {r2} {other1} {other2} one two = looking b e q {f = λ (x : Bool) (ts : List Lexeme). cond x (r1 ts) (r2 ts)} {g = λ (x : Bool) (ts : List Lexeme). cond x (other1 ts) (other2 ts)} by
  where
    by : (x : Bool) → Alike b e (λ ts. cond x (r1 ts) (r2 ts)) (λ ts. cond x (other1 ts) (other2 ts))
    by true = one
    by false = two

-- what is left behind a token that is passed over where it is there
abbrev pub passing_over : {X : Type 0} → (Option Lexeme → X) → (X → Bool) → List Lexeme → List Lexeme
passing_over q is ts = cond (is (q (first ts))) (drop 1 ts) ts

-- such a token is no bracket
pub passing : (b e : ℕ) {A X : Type 0} (q : Option Lexeme → X) (is : X → Bool) {f g : X → Reader A} → ((t : Lexeme) → is (q (Some t)) ≡ true → side_of t ≡ Neither) → ((x : X) → Alike b e (f x) (g x))
    → Alike b e (λ ts. f (q (first ts)) (passing_over q is ts)) (λ ts. g (q (first ts)) (passing_over q is ts))
passing b e {A} {X} q is {f} {g} sides both = record {
  same = λ c ts less w. (both (q (first ts))).same c (passing_over q is ts) less (within c ts w);
  keeps = λ c d ts x rest less levels w h. (both (q (first ts))).keeps c d (passing_over q is ts) x rest less levels (within c ts w) h;
}
  where
    cut : (x : Bool) (c : ℕ) (t : Lexeme) (ts : List Lexeme) → is (q (Some t)) ≡ x → Within c (t ∷ ts) → Within c (cond x ts (t ∷ ts))
    cut true c t ts h w = within_neither c t ts (sides t h) w
    cut false c t ts h w = w

    empty : (x : Bool) (c : ℕ) → Within c (cond x [] [])
    empty true c = refl
    empty false c = refl

    within : (c : ℕ) (ts : List Lexeme) → Within c ts → Within c (passing_over q is ts)
    within c [] w = empty (is (q None)) c
    within c (t ∷ ts) w = cut (is (q (Some t))) c t ts refl w

-- ---- many items
pub many : (b : ℕ) {A : Type 0} (p : Option Lexeme → Bool) {r other : Reader A} → Alike b b r other → Alike b b (many_of p r) (many_of p other)
many b {A} p {r} {other} one = looking b b (λ ts. suc (length ts)) {f = λ k. many_at p r k} {g = λ k. many_at p other k} turns
  where
    turns : (k : ℕ) → Alike b b (many_at p r k) (many_at p other k)
    turns zero = record { same = λ c ts less w. refl; keeps = λ c d ts x rest less levels w h. absurd cc }
    turns (suc k) = chosen_alike b b _ (after b b _ _ one (λ x. valued b (λ (xs : List A). x ∷ xs) (turns k))) (done b [])
