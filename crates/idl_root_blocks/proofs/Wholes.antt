-- Of a known block the units are known.
use Rattle.std.proofs.Common.{◌≡◌, ◌∙◌, Bool, true, false, ◌||◌, List, [], ◌∷◌, ◌++◌, append-nil, append_assoc, arith, map, refl, subst, sym, ap, inl, inr}
use Rattle.std.proofs.lemmas.List.Elements.{All-append, All-cons, All-contains_itself, All-head, All-nil, All-tail, All-weaker, Contains-append_cases, Contains-append_left, Contains-append_right, Contains-push_cases}
use Rattle.std.specs.List.{list_any}
use Rattle.std.specs.Prelude.{All, Contains}
use Rattle.idl_block.proofs.OuterLaws.{All-left, All-right}
use Rattle.idl_root_blocks.proofs.VerdictLaws.Stands.{AreHeld, first-held}
use Rattle.idl_root_blocks.proofs.VerdictLaws.Told.{files-told}
use Rattle.idl_check_laws.proofs.ToldLaws.{MoreTurns}
use Rattle.idl_check_laws.specs.Closing.{AreTold}
use Rattle.idl_env.specs.Facts.{UnitFacts, boundary}
use Rattle.idl_env.specs.declared.additions.addition.Step.TheVariants.{Enters as EntersFile, Leaves as LeavesFile}
use Rattle.idl_block.proofs.FactLaws.Seen.Covers.{or-left}
use Rattle.idl_block.proofs.FactLaws.StandingLaws.{or-right}
use Rattle.idl_root_blocks.proofs.Comes.{of-block}
use Rattle.idl_root_blocks.proofs.Fronts.{Walked, facts-grow, part-told, text-told-over}
use Rattle.idl_root_blocks.proofs.Splits.{declarations-split, facts-first, facts-split}
use Rattle.idl_root_blocks.specs.Blocks.{AreCut, Block, Loose, Nothing, Pieces, parts_of, text_in}
use Rattle.idl_root_blocks.specs.Met.{AreKnownWhole, IsKnownWhole, Known, with_block, with_part, with_pieces}
use Rattle.idl_root_blocks.specs.Places.{AreStandingOver, BlockPlace, DeclarationPlace, block_at, blocks_over, declaration_at, declarations_over, facts_behind, facts_over, with_entering}
use Rattle.idl_root_blocks.specs.declared.text.BlockPart.{BlockPart as Part}
use Rattle.idl_root_blocks.specs.declared.text.BlockPart.TheVariants.{Enters, Leaves}

-- ---- pieces in order

pub declarations-first : (part : Part) (text : List Part) (facts : List UnitFacts) → declarations_over facts (part ∷ text) ≡ declaration_at facts part ++ declarations_over (facts_over facts (part ∷ [])) text
unfolding declarations_over
declarations-first part text facts = refl

pub declarations-none : (facts : List UnitFacts) → declarations_over facts [] ≡ []
unfolding declarations_over
declarations-none facts = refl

pub blocks-none : (facts : List UnitFacts) → blocks_over facts Nothing ≡ []
unfolding blocks_over
blocks-none facts = refl

pub blocks-loose : (part : Part) (pieces : Pieces) (facts : List UnitFacts) → blocks_over facts (Loose part pieces) ≡ blocks_over (facts_over facts (part ∷ [])) pieces
unfolding blocks_over
blocks-loose part pieces facts = refl

pub blocks-block : (inside pieces : Pieces) (facts : List UnitFacts)
    → blocks_over facts (Block inside pieces) ≡ blocks_over (with_entering facts) inside ++ block_at facts inside ∷ blocks_over (facts_behind facts inside) pieces
unfolding blocks_over
blocks-block inside pieces facts = refl

-- the facts behind a block and what follows, and the declarations of both
facts-block : (inside pieces : Pieces) (facts : List UnitFacts) → facts_over facts (text_in (Block inside pieces)) ≡ facts_over (facts_behind facts inside) (text_in pieces)
facts-block inside pieces facts =
    let over : List UnitFacts = facts_over (with_entering facts) (text_in inside) in
    facts-first (Enters false) (text_in inside ++ Leaves false ∷ text_in pieces) facts
    ∙ facts-split (text_in inside) (Leaves false ∷ text_in pieces) (with_entering facts)
    ∙ facts-first (Leaves false) (text_in pieces) over

pub declarations-block : (inside pieces : Pieces) (facts : List UnitFacts)
    → declarations_over facts (text_in (Block inside pieces)) ≡ declarations_over (with_entering facts) (text_in inside) ++ declarations_over (facts_behind facts inside) (text_in pieces)
declarations-block inside pieces facts =
    let over : List UnitFacts = facts_over (with_entering facts) (text_in inside) in
    let own : List DeclarationPlace = declarations_over (with_entering facts) (text_in inside) in
    declarations-first (Enters false) (text_in inside ++ Leaves false ∷ text_in pieces) facts
    ∙ declarations-split (text_in inside) (Leaves false ∷ text_in pieces) (with_entering facts)
    ∙ ap (λ (places : List DeclarationPlace). own ++ places) (declarations-first (Leaves false) (text_in pieces) over)

-- ---- blocks stand

module _ (walked : Walked) (more : MoreTurns) where
  -- each among pieces, where all is told and no more than memory holds
  pub stand-over : (pieces : Pieces) (facts : List UnitFacts) → AreCut pieces → AreTold facts → AreHeld (facts_over facts (text_in pieces)) → AreStandingOver facts pieces
  stand-over Nothing facts cut told held = tt
  stand-over (Loose part pieces) facts cut told held =
      let r = facts-grow (part ∷ text_in pieces) facts in
      let own : AreHeld facts = first-held facts r.0 (subst AreHeld r.1 held) in
      stand-over pieces (facts_over facts (part ∷ [])) cut.1 (part-told more part facts own.turns told) (subst AreHeld (facts-first part (text_in pieces) facts) held)
  stand-over (Block inside pieces) facts cut told held =
      let text : List Part = text_in inside in
      let over : List UnitFacts = facts_over (with_entering facts) text in
      let end : List UnitFacts = facts_behind facts inside in
      let behind : AreHeld (facts_over end (text_in pieces)) = subst AreHeld (facts-block inside pieces facts) held in
      let grown = facts-grow (text_in pieces) end in
      let at_end : AreHeld end = first-held end grown.0 (subst AreHeld grown.1 behind) in
      let within : AreHeld over = first-held over (boundary LeavesFile ∷ []) at_end in
      let inside_told : AreTold (with_entering facts) = files-told facts EntersFile tt told in
      let end_told : AreTold end = files-told over LeavesFile tt (text-told-over more text (with_entering facts) within.turns inside_told) in (
        walked facts (parts_of text) (of-block text cut.0) told within.turns within.count,
        (stand-over inside (with_entering facts) cut.1.0 inside_told within, stand-over pieces end cut.1.1 end_told behind),
      )

-- ---- what is known of pieces

abbrev with_both : Known → List DeclarationPlace → List BlockPlace → Known
with_both known units blocks = record { declarations = known.declarations ++ units; blocks = known.blocks ++ blocks }

pub pieces-none : (known : Known) (facts : List UnitFacts) → with_pieces known facts Nothing ≡ known
pieces-none known facts =
    (λ i. with_both known (declarations-none facts i) (blocks-none facts i))
    ∙ (λ i. record { declarations = append-nil known.declarations i; blocks = append-nil known.blocks i })

pub pieces-loose : (known : Known) (facts : List UnitFacts) (part : Part) (pieces : Pieces)
    → with_pieces known facts (Loose part pieces) ≡ with_pieces (with_part known facts part) (facts_over facts (part ∷ [])) pieces
pieces-loose known facts part pieces =
    let units : List DeclarationPlace = declarations_over (facts_over facts (part ∷ [])) (text_in pieces) in
    (λ i. with_both known (declarations-first part (text_in pieces) facts i) (blocks-loose part pieces facts i))
    ∙ (λ i. record {
      declarations = sym (append_assoc known.declarations (declaration_at facts part) units) i;
      blocks = known.blocks ++ blocks_over (facts_over facts (part ∷ [])) pieces;
    })

pub pieces-block : (known : Known) (facts : List UnitFacts) (inside pieces : Pieces)
    → with_pieces known facts (Block inside pieces) ≡ with_pieces (with_block known facts inside) (facts_behind facts inside) pieces
pieces-block known facts inside pieces =
    let own : List DeclarationPlace = declarations_over (with_entering facts) (text_in inside) in
    let units : List DeclarationPlace = declarations_over (facts_behind facts inside) (text_in pieces) in
    let inner : List BlockPlace = blocks_over (with_entering facts) inside in
    let here : BlockPlace = block_at facts inside in
    let later : List BlockPlace = blocks_over (facts_behind facts inside) pieces in
    (λ i. with_both known (declarations-block inside pieces facts i) (blocks-block inside pieces facts i))
    ∙ (λ i. record {
      declarations = sym (append_assoc known.declarations own units) i;
      blocks = known.blocks ++ sym (append_assoc inner (here ∷ []) later) i;
    })
    ∙ (λ i. record { declarations = (known.declarations ++ own) ++ units; blocks = sym (append_assoc known.blocks (inner ++ here ∷ []) later) i })

-- ---- blocks are whole

-- where no fewer tasks are known
whole-more : (known : Known) (units : List DeclarationPlace) (blocks : List BlockPlace) (block : BlockPlace) → IsKnownWhole known block → IsKnownWhole (with_both known units blocks) block
whole-more known units blocks block w = record {
  before = w.before;
  inside = w.inside;
  stood = w.stood;
  is_block = w.is_block;
  standing = w.standing;
  units =
      All-weaker (Contains known.declarations) (Contains (known.declarations ++ units)) (λ x h. Contains-append_left known.declarations units x h)
      (declarations_over (with_entering w.before) (text_in w.inside)) w.units;
}

-- those among pieces that stand, whose units are known
whole-pieces : (known : Known) (pieces : Pieces) (facts : List UnitFacts) → AreCut pieces → AreStandingOver facts pieces
    → All (Contains known.declarations) (declarations_over facts (text_in pieces)) → All (IsKnownWhole known) (blocks_over facts pieces)
whole-pieces known Nothing facts cut standing units = subst (All (IsKnownWhole known)) (sym (blocks-none facts)) (All-nil (IsKnownWhole known))
whole-pieces known (Loose part pieces) facts cut standing units =
    let next : List UnitFacts = facts_over facts (part ∷ []) in
    subst (All (IsKnownWhole known)) (sym (blocks-loose part pieces facts))
    (whole-pieces known pieces next cut.1 standing
    (All-right (Contains known.declarations) (declaration_at facts part) (declarations_over next (text_in pieces))
    (subst (All (Contains known.declarations)) (declarations-first part (text_in pieces) facts) units)))
whole-pieces known (Block inside pieces) facts cut standing units =
    let text : List Part = text_in inside in
    let end : List UnitFacts = facts_behind facts inside in
    let inner : List BlockPlace = blocks_over (with_entering facts) inside in
    let here : BlockPlace = block_at facts inside in
    let later : List BlockPlace = blocks_over end pieces in
    let own : List DeclarationPlace = declarations_over (with_entering facts) text in
    let rest : List DeclarationPlace = declarations_over end (text_in pieces) in
    let all_units : All (Contains known.declarations) (own ++ rest) = subst (All (Contains known.declarations)) (declarations-block inside pieces facts) units in
    let units_inside : All (Contains known.declarations) own = All-left (Contains known.declarations) own rest all_units in
    let whole : IsKnownWhole known here = record {
      before = facts;
      inside = inside;
      stood = refl;
      is_block = cut.0;
      standing = standing.0;
      units = units_inside;
    } in
    subst (All (IsKnownWhole known)) (sym (blocks-block inside pieces facts))
    (All-append (IsKnownWhole known) inner (here ∷ later) (whole-pieces known inside (with_entering facts) cut.1.0 standing.1.0 units_inside)
    (All-cons (IsKnownWhole known) here later whole
    (whole-pieces known pieces end cut.1.1 standing.1.1 (All-right (Contains known.declarations) own rest all_units))))

pub whole-with : (known : Known) (facts : List UnitFacts) (pieces : Pieces) → AreKnownWhole known → AreCut pieces → AreStandingOver facts pieces → AreKnownWhole (with_pieces known facts pieces)
whole-with known facts pieces whole cut standing =
    let units : List DeclarationPlace = declarations_over facts (text_in pieces) in
    let blocks : List BlockPlace = blocks_over facts pieces in
    let all : Known = with_pieces known facts pieces in
    All-append (IsKnownWhole all) known.blocks blocks (All-weaker (IsKnownWhole known) (IsKnownWhole all) (λ block w. whole-more known units blocks block w) known.blocks whole)
    (whole-pieces all pieces facts cut standing
    (All-weaker (Contains units) (Contains all.declarations) (λ x h. Contains-append_right known.declarations units x h) units (All-contains_itself units)))

-- ---- likes

module _ {X : Type 0} where
  -- one that passes, with what holds of it
  pub passing : (P : X → Type 0) (p : X → Bool) (xs : List X) → All P xs → list_any p xs ≡ true → (x : X) × (P x × (p x ≡ true))
  passing P p [] all h = cc
  passing P p (x ∷ xs) all h = by (p x) refl h (passing P p xs (All-tail P x xs all))
    where
      by : (b : Bool) → p x ≡ b → (b || list_any p xs) ≡ true → (list_any p xs ≡ true → (x : X) × (P x × (p x ≡ true))) → (x : X) × (P x × (p x ≡ true))
      by true is h later = (x, (All-head P x xs all, is))
      by false is h later = later h

  -- one of these passes if this one does
  pub any-passing : (p : X → Bool) (xs : List X) (x : X) → Contains xs x → p x ≡ true → list_any p xs ≡ true
  any-passing p [] x there h = absurd (omega (arith, there.1))
  any-passing p (y ∷ ys) x there h = elim (Contains-append_cases (y ∷ []) ys x there) [
    | inl c ↦ or-left (p y) (list_any p ys) (elim (Contains-push_cases [] y x c) [ inl none ↦ absurd (omega (arith, none.1)) | inr same ↦ ap p same ∙ h ])
    | inr c ↦ or-right (p y) (list_any p ys) (any-passing p ys x c h)
  ]

  -- each of these passes with one of those that are among others
  pub each-passes : {Y : Type 0} (f : X → Y) (p : X → X → Bool) (zs : List X) → ((x y : X) → f x ≡ f y → p x y ≡ true) → (xs ys : List X) → map f xs ≡ map f ys → All (Contains zs) ys
      → All (λ x. list_any (p x) zs ≡ true) xs
  each-passes f p zs likes [] ys is among = All-nil (λ x. list_any (p x) zs ≡ true)
  each-passes f p zs likes (x ∷ xs) [] is among = cc
  each-passes f p zs likes (x ∷ xs) (y ∷ ys) is among =
      let first : f x ≡ f y = cc in
      let rest : map f xs ≡ map f ys = cc in
      All-cons (λ x. list_any (p x) zs ≡ true) x xs (any-passing (p x) zs y (All-head (Contains zs) y ys among) (likes x y first))
      (each-passes f p zs likes xs ys rest (All-tail (Contains zs) y ys among))
