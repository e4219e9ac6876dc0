-- A block inside one that is alike is alike.
use Rattle.std.proofs.Common.{◌≡◌, ◌∙◌, false, List, [], ◌∷◌, ◌++◌, Option, append_assoc, map, refl, subst, sym, ap}
use Rattle.std.specs.Prelude.{All}
use Rattle.std.proofs.lemmas.List.{map-append}
use Rattle.idl_block.proofs.AgreedLaws.{agreed-inside}
use Rattle.idl_block.proofs.JoinedLaws.{asked-joined}
use Rattle.idl_block.proofs.OuterLaws.{All-left, All-right}
use Rattle.idl_block.specs.Behind.{laid}
use Rattle.idl_block.specs.Blocks.{block}
use Rattle.idl_block.specs.Questions.{AreKnown, AreNested}
use Rattle.idl_root_blocks.specs.verdicts.Standing.{AreStanding, IsBlockFront, block_end, unit_asks, unit_writes}
use Rattle.idl_check_laws.proofs.ToldLaws.{MoreTurns}
use Rattle.idl_env.specs.Facts.{UnitFacts, answers, boundary}
use Rattle.idl_env.specs.declared.additions.addition.Step.TheVariants.{Enters as EntersFile}
use Rattle.idl_env.specs.declared.answering.answer.Answer.{Answer}
use Rattle.idl_env.specs.declared.keys.key.Key.{Key}
use Rattle.idl_env.specs.keys.Key.{key_eq}
use Rattle.idl_block.proofs.FactLaws.Seen.KnownLaws.{known-block}
use Rattle.idl_block.specs.facts.Answered.{answered}
use Rattle.idl_memo.proofs.QueryLaws.{outcome-agree, run-agree}
use Rattle.idl_memo.specs.Kept.{Kept}
use Rattle.idl_memo.specs.Query.{Agree, asked, outcome}
use Rattle.idl_root_blocks.proofs.Comes.{of-block}
use Rattle.idl_root_blocks.proofs.Fronts.{Enough, Parts, Walked, ended, facts-come, front-block, front-stands, inside-stands, parts-append}
use Rattle.idl_root_blocks.proofs.Results.{asks-block}
use Rattle.idl_root_blocks.proofs.Splits.{facts-first, facts-split}
use Rattle.idl_root_blocks.specs.Blocks.{AreCut, Block, IsOfBlock, Loose, Nothing, Pieces, parts_of, text_in}
use Rattle.idl_root_blocks.specs.Places.{BlockEnd, BlockPlace, block_asks, block_at, block_query, block_result, blocks_over, facts_behind, facts_over, unit_ways, with_entering}
use Rattle.idl_root_blocks.specs.declared.text.BlockPart.{BlockPart as Part}
use Rattle.idl_root_blocks.specs.declared.text.BlockPart.TheVariants.{Enters, Leaves}

abbrev pub NestedIn : Type 0
NestedIn = (before : List UnitFacts) (front parts : Parts) → IsBlockFront front → AreStanding before (block_end (answers before) front).1
    → IsBlockFront parts → AreStanding (before ++ (block_end (answers before) front).1) (block_end (answers (before ++ (block_end (answers before) front).1)) parts).1
    → AreNested unit_ways (block_end (answers before) front).1 (answers before) parts (boundary EntersFile ∷ [])
    × (laid answered (block_end (answers before) front).1 (answers before) ≡ answers (before ++ (block_end (answers before) front).1))

-- ---- pieces where they stand

-- the front with a loose part, with the entering of a block, and with all of it
pub over-part : (facts : List UnitFacts) (front : List Part) (part : Part) → facts_over facts (front ++ part ∷ []) ≡ facts_over (facts_over facts front) (part ∷ [])
over-part facts front part = facts-split front (part ∷ []) facts

pub over-inside : (facts : List UnitFacts) (front : List Part) (inside : Pieces)
    → facts_over facts (front ++ Enters false ∷ (text_in inside ++ Leaves false ∷ [])) ≡ facts_behind (facts_over facts front) inside
over-inside facts front inside =
    let over : List UnitFacts = facts_over facts front in
    facts-split front (Enters false ∷ (text_in inside ++ Leaves false ∷ [])) facts
    ∙ facts-first (Enters false) (text_in inside ++ Leaves false ∷ []) over
    ∙ facts-split (text_in inside) (Leaves false ∷ []) (with_entering over)

module _ (text front behind : List Part) where
  pub at-part : (part : Part) (pieces : Pieces) → text ≡ front ++ (text_in (Loose part pieces) ++ behind) → text ≡ (front ++ part ∷ []) ++ (text_in pieces ++ behind)
  at-part part pieces is = is ∙ sym (append_assoc front (part ∷ []) (text_in pieces ++ behind))

  module _ (inside pieces : Pieces) (is : text ≡ front ++ (text_in (Block inside pieces) ++ behind)) where
    pub at-block : text ≡ front ++ Enters false ∷ (text_in inside ++ Leaves false ∷ (text_in pieces ++ behind))
    at-block = is ∙ ap (λ (t : List Part). front ++ Enters false ∷ t) (append_assoc (text_in inside) (Leaves false ∷ text_in pieces) behind)

    pub at-inside : text ≡ (front ++ Enters false ∷ []) ++ (text_in inside ++ Leaves false ∷ (text_in pieces ++ behind))
    at-inside = at-block ∙ sym (append_assoc front (Enters false ∷ []) (text_in inside ++ Leaves false ∷ (text_in pieces ++ behind)))

    pub at-behind : text ≡ (front ++ Enters false ∷ (text_in inside ++ Leaves false ∷ [])) ++ (text_in pieces ++ behind)
    at-behind =
        at-block
        ∙ ap (λ (t : List Part). front ++ Enters false ∷ t) (sym (append_assoc (text_in inside) (Leaves false ∷ []) (text_in pieces ++ behind)))
        ∙ sym (append_assoc front (Enters false ∷ (text_in inside ++ Leaves false ∷ [])) (text_in pieces ++ behind))

-- ---- two places

module _ (enough : Enough) (walked : Walked) (more : MoreTurns) (nested : NestedIn)
    (before other : List UnitFacts) (text : List Part) (whole : IsBlockFront (parts_of text)) (standing : AreStanding before (ended before text)) (there : AreStanding other (ended other text))
    (agree : Agree (asked (block_query text) (answers before)) (answers before) (answers other)) where
  abbrev IsSame : Key → Type 0
  IsSame k = answers other k ≡ answers before k

  module _ (front inside behind : List Part) (is : text ≡ front ++ Enters false ∷ (inside ++ Leaves false ∷ behind)) (block_inside : IsOfBlock inside) where
    abbrev entered : List UnitFacts
    entered = boundary EntersFile ∷ []

    abbrev tail : List Part
    tail = Enters false ∷ (inside ++ Leaves false ∷ behind)

    abbrev outer : List UnitFacts
    outer = ended before front

    abbrev over : List UnitFacts
    over = facts_over (with_entering before) front

    abbrev over_there : List UnitFacts
    over_there = facts_over (with_entering other) front

    -- what is asked up to the block, in it, and behind it
    abbrev front_asked : List Key
    front_asked = asked (block_query front) (answers before)

    abbrev own_asked : List Key
    own_asked = asked (block unit_ways (parts_of inside) (outer ++ entered)) (answers before)

    abbrev tail_asked : List Key
    tail_asked = asked (block unit_ways (parts_of (inside ++ Leaves false ∷ behind)) (outer ++ entered)) (answers before)

    abbrev later_asked : List Key
    later_asked =
        asked (block unit_ways (parts_of (Leaves false ∷ behind)) (outcome (block unit_ways (parts_of inside) (outer ++ entered)) (answers before)).1) (answers before)

    all-asked : All IsSame (front_asked ++ tail_asked)
    all-asked =
        subst (All IsSame)
        (ap (λ (ps : Parts). asked (block unit_ways ps entered) (answers before)) (ap parts_of is ∙ parts-append front tail)
        ∙ asked-joined unit_ways (answers before) (parts_of front) (parts_of tail) entered)
        agree

    own-agree : All IsSame own_asked
    own-agree =
        All-left IsSame own_asked later_asked
        (subst (All IsSame)
        (ap (λ (ps : Parts). asked (block unit_ways ps (outer ++ entered)) (answers before)) (parts-append inside (Leaves false ∷ behind))
        ∙ asked-joined unit_ways (answers before) (parts_of inside) (parts_of (Leaves false ∷ behind)) (outer ++ entered))
        (All-right IsSame front_asked tail_asked all-asked))

    -- the front adds the same
    same-outer : ended other front ≡ outer
    same-outer = ap (λ (e : BlockEnd). e.1) (outcome-agree (block_query front) (answers before) (answers other) (All-left IsSame front_asked tail_asked all-asked))

    -- what is known of the block behind a front, at one place
    module _ (place : List UnitFacts) (stands : AreStanding place (ended place text)) where
      abbrev here : List UnitFacts
      here = facts_over (with_entering place) front

      is-here : here ≡ place ++ ended place front
      is-here = facts-come enough place front (front-block enough walked more place text whole stands front tail is) (front-stands enough walked more place text whole stands front tail is)

      stands-here : AreStanding here (ended here inside)
      stands-here = inside-stands enough walked more place text whole stands front inside behind is block_inside

      known-here : AreKnown unit_ways (parts_of inside) entered (answers here)
      known-here = known-block unit_asks unit_writes (answers here) (parts_of inside) (enough here (parts_of inside) (of-block inside block_inside) stands-here)

      nested-here : AreNested unit_ways (ended place front) (answers place) (parts_of inside) entered × (laid answered (ended place front) (answers place) ≡ answers here)
      nested-here =
          let n =
          nested place (parts_of front) (parts_of inside) (front-block enough walked more place text whole stands front tail is) (front-stands enough walked more place text whole stands front tail is)
          (of-block inside block_inside) (subst (λ (fs : List UnitFacts). AreStanding fs (ended fs inside)) is-here stands-here) in
          (n.0, n.1 ∙ ap answers (sym is-here))

    pub inside-agree : Agree (asked (block_query inside) (answers over)) (answers over) (answers over_there)
    inside-agree =
        let H : Key → Option Answer = laid answered outer (answers before) in
        let T : Key → Option Answer = laid answered outer (answers other) in
        let near = nested-here before standing in
        let far : AreNested unit_ways outer (answers other) (parts_of inside) entered × (T ≡ answers over_there) =
        subst (λ (o : List UnitFacts). AreNested unit_ways o (answers other) (parts_of inside) entered × (laid answered o (answers other) ≡ answers over_there)) same-outer (nested-here other there) in
        let both : Agree (asked (block_query inside) H) H T =
        agreed-inside unit_ways outer (answers before) (answers other) (parts_of inside) entered near.0 far.0
        (subst (λ (b : Key → Option Answer). AreKnown unit_ways (parts_of inside) entered b) (sym near.1) (known-here before standing))
        (subst (λ (b : Key → Option Answer). AreKnown unit_ways (parts_of inside) entered b) (sym far.1) (known-here other there)) own-agree in
        subst (λ (b : Key → Option Answer). Agree (asked (block_query inside) b) b (answers over_there)) near.1
        (subst (λ (b : Key → Option Answer). Agree (asked (block_query inside) H) H b) far.1 both)

    -- so the same is kept of it
    pub inside-result : block_result (inside, answers over_there) ≡ block_result (inside, answers over)
    inside-result =
        let asks : asked (block_asks inside) (answers over) ≡ asked (block_query inside) (answers over) =
        asks-block inside (answers over) in
        let alike : Agree (asked (block_asks inside) (answers over)) (answers over) (answers over_there) = subst (λ (ks : List Key). Agree ks (answers over) (answers over_there)) (sym asks) inside-agree in
        ap (λ (r : (Unit {0}) × List (Key × Option Answer)). record { text = inside; log = r.1; out = r.0 }) (run-agree key_eq (block_asks inside) (answers over) (answers over_there) [] alike)

  abbrev result : BlockPlace → Kept Key (Option Answer) (List Part) (Unit {0})
  result = block_result

  pub results-inside : (pieces : Pieces) (front behind : List Part) → text ≡ front ++ (text_in pieces ++ behind) → AreCut pieces
      → map result (blocks_over (facts_over (with_entering other) front) pieces) ≡ map result (blocks_over (facts_over (with_entering before) front) pieces)
  unfolding blocks_over
  results-inside Nothing front behind is cut = refl
  results-inside (Loose part pieces) front behind is cut =
      ap (λ (fs : List UnitFacts). map result (blocks_over fs pieces)) (sym (over-part (with_entering other) front part))
      ∙ results-inside pieces (front ++ part ∷ []) behind (at-part text front behind part pieces is) cut.1
      ∙ ap (λ (fs : List UnitFacts). map result (blocks_over fs pieces)) (over-part (with_entering before) front part)
  results-inside (Block inside pieces) front behind is cut =
      let rest : List Part = text_in pieces ++ behind in
      let entering : List Part = front ++ Enters false ∷ [] in
      let leaving : List Part = front ++ Enters false ∷ (text_in inside ++ Leaves false ∷ []) in
      let here : List UnitFacts = facts_over (with_entering before) front in
      let there : List UnitFacts = facts_over (with_entering other) front in
      let inner : List UnitFacts → List BlockPlace = λ facts. blocks_over (with_entering facts) inside in
      let later : List UnitFacts → List BlockPlace = λ facts. blocks_over (facts_behind facts inside) pieces in
      let first : map result (inner there) ≡ map result (inner here) =
      ap (λ (fs : List UnitFacts). map result (blocks_over fs inside)) (sym (over-part (with_entering other) front (Enters false)))
      ∙ results-inside inside entering (Leaves false ∷ rest) (at-inside text front behind inside pieces is) cut.1.0
      ∙ ap (λ (fs : List UnitFacts). map result (blocks_over fs inside)) (over-part (with_entering before) front (Enters false)) in
      let last : map result (later there) ≡ map result (later here) =
      ap (λ (fs : List UnitFacts). map result (blocks_over fs pieces)) (sym (over-inside (with_entering other) front inside))
      ∙ results-inside pieces leaving behind (at-behind text front behind inside pieces is) cut.1.1
      ∙ ap (λ (fs : List UnitFacts). map result (blocks_over fs pieces)) (over-inside (with_entering before) front inside) in
      map-append result (inner there) (block_at there inside ∷ later there)
      ∙ (λ i. first i ++ inside-result front (text_in inside) rest (at-block text front behind inside pieces is) cut.0 i ∷ last i)
      ∙ sym (map-append result (inner here) (block_at here inside ∷ later here))
