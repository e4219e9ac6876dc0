use Rattle.std.proofs.Common.{◌≡◌, ◌∙◌, ◌⊎◌, inl, inr, ◌+◌, ◌-◌, ◌<◌, ◌^◌, ◌++◌, ◌∷◌, [], ℕ, List, Some, false, get_or, length, map, slice_get, refl, sym, ap, subst, append-nil, append_assoc, arith, take, rules}
use Rattle.std.proofs.lemmas.List.{length-take-le, take_all, take_more}
use Rattle.std.proofs.lemmas.Option.{slice_get-get_or, slice_get-map}
use Rattle.std.specs.Option.{option_map, unwrap_or}
use Rattle.idl_event.proofs.SitesLemmas.{HaveSites-line, HaveSites-none, HaveSites-on, in_stretch-last}
use Rattle.idl_event.specs.Sites.{HaveSites, in_stretch}
use Rattle.idl_event.specs.declared.told.sites.LineEntry.{LineEntry}
use Rattle.idl_event.specs.declared.told.sites.Stretch.{Stretch}
use Rattle.idl_lex.specs.declared.tokens.token.PlacedToken.{PlacedToken}
use Rattle.idl_event.proofs.told.sites.push_lines.Goals as goal

abbrev no_token : PlacedToken
no_token = record { token = []; line = 0; starts_line = false; follows_word = false }

pub tokens-init : goal.tokens-init
tokens-init c = record {
  within = omega arith;
  more = ([], sym (append-nil c.args.spots.now.items));
  sites = HaveSites-none c.args.spots.now.items c.args.start.first c.args.start.stretch;
  last = λ line e. absurd (cc);
}

line-of : (tokens : List PlacedToken) (i line : ℕ) → i < length tokens → slice_get (map (λ (t : PlacedToken). t.line) tokens) i ≡ Some line → line ≡ (get_or tokens i no_token).line
line-of tokens i line lt is =
    ap (λ o. unwrap_or o 0)
    (sym is ∙ slice_get-map (λ (t : PlacedToken). t.line) tokens i ∙ ap (option_map (λ (t : PlacedToken). t.line)) (slice_get-get_or tokens i no_token lt))

pub tokens-preserved : goal.tokens-preserved
tokens-preserved c =
    let old = c.args.spots.now.items in
    let spots = c.tokens.spots.items in
    let new = c.put_spot.new.spots.items in
    let start = c.args.start in
    let tokens = c.args.tokens.now in
    let i = c.tokens.i in
    let here = c.tokens.invariant in
    let lt : i < length tokens = omega (arith, c.tokens-test.true, c.len.ensures) in
    let t = get_or tokens i no_token in
    let front = take i tokens in
    let long : length front ≡ i = length-take-le i tokens (omega (arith, lt)) in
    let taken : take (i + 1) tokens ≡ front ++ t ∷ [] = take_more tokens i no_token lt in
    let line : c.line_at-line.result ≡ t.line = line-of tokens i c.line_at-line.result lt c.line_at-line.ensures in
    let spot : LineEntry = record { first = start.first + i; line = c.line_at-line.result; stretch = start.stretch } in
    let few : start.first + length front < 2 ^ 32 = omega (arith, long, lt, c.requires) in
    let begins : spot.first ≡ start.first + length front = omega (arith, long) in
    let put : ((c.tokens.last ≡ Some spot.line) × (new ≡ spots)) ⊎ (new ≡ spots ++ spot ∷ []) = search rules in
    let sites : HaveSites old new start.first start.stretch (front ++ t ∷ []) = elim put [
      | inl on ↦ subst (λ (l : List LineEntry). HaveSites old l start.first start.stretch (front ++ t ∷ [])) (sym on.1)
          (HaveSites-on old spots start.first start.stretch front t here.sites (λ st s is. here.last spot.line on.0 st s is ∙ ap (λ n. Some (n, s)) line) few)
      | inr pushed ↦ subst (λ (l : List LineEntry). HaveSites old l start.first start.stretch (front ++ t ∷ [])) (sym pushed)
          (HaveSites-line old spots start.first start.stretch front t spot here.sites begins line refl few)
    ] in
    let last : (st : List Stretch) (s : Stretch) → slice_get st start.stretch ≡ Some s → in_stretch st (slice_get new (length new - 1)) ≡ Some (spot.line, s) =
    λ st s is. elim put [
      | inl on ↦ ap (λ (l : List LineEntry). in_stretch st (slice_get l (length l - 1))) on.1 ∙ here.last spot.line on.0 st s is
      | inr pushed ↦ ap (λ (l : List LineEntry). in_stretch st (slice_get l (length l - 1))) pushed ∙ in_stretch-last spots spot start.stretch refl st s is
    ] in
    record {
      within = omega (arith, lt);
      more = elim put [
        | inl on ↦ (here.more.0, on.1 ∙ here.more.1)
        | inr pushed ↦ (here.more.0 ++ spot ∷ [], pushed ∙ ap (λ (l : List LineEntry). l ++ spot ∷ []) here.more.1 ∙ append_assoc old here.more.0 (spot ∷ []))
      ];
      sites = subst (λ (ts : List PlacedToken). HaveSites old new start.first start.stretch ts) (sym taken) sites;
      last = λ line e st s is. last st s is ∙ ap (λ n. Some (n, s)) (ap (λ o. unwrap_or o 0) e);
    }

pub returns-clause-more : goal.returns-clause-more
returns-clause-more c =
    let tokens = c.args.tokens.now in
    let here = c.tokens.invariant in
    let whole : take c.tokens.i tokens ≡ tokens = take_all c.tokens.i tokens (omega (arith, c.tokens-test.false, c.len.ensures)) in
    subst (λ (ts : List PlacedToken). HaveSites c.args.spots.now.items c.tokens.spots.items c.args.start.first c.args.start.stretch ts) whole here.sites
