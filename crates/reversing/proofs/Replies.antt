-- On accepted rows, the answer by row numbers is the answer by terms, and what is known of it.
use Prim.Native.Nat.{ℕ, suc, ◌<◌, ◌≤◌}
use mathlib.Core.Path.{◌≡◌, refl, sym, ◌∙◌, ap}
use mathlib.Core.Bool.{Bool, true, false, cond, not, ◌&&◌}
use mathlib.Core.List.{List}
use mathlib.Core.Logic.{◌↔◌}
use mathlib.Core.Option.{Option, none, some}
use native.Mathlib.Omega.{arith}
use lib.Dec.{T, eqb, leb, ltb, ltb→lt}
use lib.ListN.{length}
use mir.Facts.{and_yes, leb_yes}
use borrow.Author.Tests.{ne_eqb, ltb-false}
use Rattle.std.proofs.lemmas.Bool.{le-ltb, lt-ltb}
use Rattle.common.proofs.Reflect.{true_iff}
use Rattle.xpath.specs.Term.{Path}
use Rattle.terms.specs.Row.{Row, row_at, max_rows}
use Rattle.terms.specs.Fields.{held_path, is_path}
use Rattle.terms.specs.Nesting.{max_nesting}
use Rattle.terms.specs.Terms.{of_path, path_at}
use Rattle.terms.specs.AcceptedRows.{Built}
use Rattle.selector_grammar.specs.Denotes.{Put, put_path, nest_path}
use Rattle.selector_grammar.specs.Answer.{Reply, reply}
use Rattle.selector_grammar.proofs.Basics.{so}
use Rattle.selector_grammar.proofs.Longer.{Longer, none_new, path_longer}
use Rattle.selector_grammar.proofs.Stands.{Stands, path_stands}
use Rattle.rules.specs.WayBack.{way_back}
use Rattle.reversing.specs.WayBackCall.{path_reply, back_reply, way_back_reply, HasWayBack}
use Rattle.reversing.specs.private.RowsBack.{back_nesting, back_put, row_reply}
use Rattle.reversing.proofs.HeldAgain.{FineStep}
use Rattle.reversing.proofs.ByTerms.{capped, nest_given, nest_least, back_law}

capped_deep : (n : ℕ) → ltb max_nesting (capped n) ≡ ltb max_nesting n
capped_deep n = go (ltb max_nesting n) refl
  where
    go : (b : Bool) → ltb max_nesting n ≡ b → ltb max_nesting (capped n) ≡ b
    go true e = let l = ltb→lt max_nesting n (so _ e) in lt-ltb max_nesting (capped n) (omega (arith, l))
    go false e = let l = ltb-false max_nesting n e in le-ltb max_nesting (capped n) (omega (arith, l))

-- what is answered where the row is a held path, by whether it has a way back and whether this is too deep
abbrev reply_by : List Row → (none_there deep : Bool) → Put → Reply
reply_by rs b d u =
    cond b (reply 7 0 rs)
    (cond d (reply 3 0 rs) (cond (ltb max_rows (length u.rows)) (reply 11 0 rs) (reply 0 u.at u.rows)))

path_held : (rs : List Row) (i : ℕ) → held_path rs i ≡ true → (i < length rs) × ((row_at rs i).kind ≤ 5)
unfolding held_path is_path
path_held rs i e =
    let (l, k) = and_yes (ltb i (length rs)) (leb (row_at rs i).kind 5) (so _ e) in (ltb→lt i (length rs) l, leb_yes k)

module _ {rs : List Row} (built : Built rs) (i : ℕ) where
  path_replied : i < length rs → (row_at rs i).kind ≤ 5 → (o : Option Path) → way_back (path_at rs i) ≡ o
      → reply_by rs (eqb (back_nesting rs i) 0) (ltb max_nesting (back_nesting rs i)) (back_put rs i rs)
      ≡ back_reply o rs
  unfolding back_reply path_reply
  path_replied h k none q =
      let nest : back_nesting rs i ≡ 0 = (back_law built i h k).nest ∙ ap nest_given q in
      ap (λ (n : ℕ). reply_by rs (eqb n 0) (ltb max_nesting n) (back_put rs i rs)) nest
  path_replied h k (some w) q =
      let law = back_law built i h k in
      let nest : back_nesting rs i ≡ capped (nest_path w) = law.nest ∙ ap nest_given q in
      let there : eqb (back_nesting rs i) 0 ≡ false =
      ne_eqb (back_nesting rs i) 0 (λ z. omega (arith, z, nest, nest_least w)) in
      let deep : ltb max_nesting (back_nesting rs i) ≡ ltb max_nesting (nest_path w) =
      ap (ltb max_nesting) nest ∙ capped_deep (nest_path w) in
      let puts : back_put rs i rs ≡ put_path w rs = law.puts rs (none_new rs) w q in
      λ j. reply_by rs (there j) (deep j) (puts j)

  pub reply_by_terms : row_reply rs i ≡ way_back_reply rs i
  unfolding row_reply way_back_reply
  reply_by_terms = go (held_path rs i) refl
    where
      go : (b : Bool) → held_path rs i ≡ b
          → cond (not b) (reply 5 1 rs) (reply_by rs (eqb (back_nesting rs i) 0) (ltb max_nesting (back_nesting rs i))
          (back_put rs i rs))
          ≡ cond (not b) (reply 5 1 rs) (back_reply (way_back (path_at rs i)) rs)
      go true e = let (h, k) = path_held rs i e in path_replied h k (way_back (path_at rs i)) refl
      go false e = refl

-- the cases of the definition
pub data Outcome (rs : List Row) (i : ℕ) : Reply → Type 0 where
  no_path : held_path rs i ≡ false → Outcome rs i (reply 5 1 rs)
  no_back : held_path rs i ≡ true → way_back (path_at rs i) ≡ none → Outcome rs i (reply 7 0 rs)
  too_deep : Outcome rs i (reply 3 0 rs)
  too_many : Outcome rs i (reply 11 0 rs)
  has_back : (w : Path) → HasWayBack rs i w → Outcome rs i (reply 0 (put_path w rs).at (put_path w rs).rows)

module _ (rs : List Row) (i : ℕ) where
  limited : (w : Path) → held_path rs i ≡ true → way_back (path_at rs i) ≡ some w → (b c : Bool)
      → ltb max_nesting (nest_path w) ≡ b → ltb max_rows (length (put_path w rs).rows) ≡ c
      → Outcome rs i
      (cond b (reply 3 0 rs) (cond c (reply 11 0 rs) (reply 0 (put_path w rs).at (put_path w rs).rows)))
  limited w held q true c e f = too_deep
  limited w held q false true e f = too_many
  limited w held q false false e f =
      has_back w
      (record {
        path = so _ held;
        is_back = q;
        nesting = ltb-false max_nesting (nest_path w) e;
        space = ltb-false max_rows (length (put_path w rs).rows) f;
      })

  path_outcome : held_path rs i ≡ true → (o : Option Path) → way_back (path_at rs i) ≡ o
      → Outcome rs i (back_reply o rs)
  unfolding back_reply path_reply
  path_outcome held none q = no_back held q
  path_outcome held (some w) q = limited w held q _ _ refl refl

  pub outcome : Outcome rs i (way_back_reply rs i)
  unfolding way_back_reply
  outcome = go (held_path rs i) refl
    where
      go : (b : Bool) → held_path rs i ≡ b
          → Outcome rs i (cond (not b) (reply 5 1 rs) (back_reply (way_back (path_at rs i)) rs))
      go true e = path_outcome e (way_back (path_at rs i)) refl
      go false e = no_path e

  -- rows are only added; a refused call adds none
  longer_by : (r : Reply) → Outcome rs i r → Longer rs r.rows
  longer_by r (no_path e) = none_new rs
  longer_by r (no_back e q) = none_new rs
  longer_by r too_deep = none_new rs
  longer_by r too_many = none_new rs
  longer_by r (has_back w h) = path_longer w rs

  pub reply_longer : Longer rs (way_back_reply rs i).rows
  reply_longer = longer_by _ outcome

  has_by : (r : Reply) → Outcome rs i r → r.number ≡ 0
      → (w : Path) × HasWayBack rs i w × (r ≡ reply 0 (put_path w rs).at (put_path w rs).rows)
  has_by r (no_path e) z = absurd (omega (arith, z))
  has_by r (no_back e q) z = absurd (omega (arith, z))
  has_by r too_deep z = absurd (omega (arith, z))
  has_by r too_many z = absurd (omega (arith, z))
  has_by r (has_back w h) z = (w, h, refl)

  -- an accepted call: the way back, and its reply
  pub accepted_has : (way_back_reply rs i).number ≡ 0
      → (w : Path) × HasWayBack rs i w × (way_back_reply rs i ≡ reply 0 (put_path w rs).at (put_path w rs).rows)
  accepted_has z = has_by _ outcome z

  -- and what has one is accepted
  pub has_accepted : (w : Path) → HasWayBack rs i w → (way_back_reply rs i).number ≡ 0
  unfolding way_back_reply back_reply path_reply
  has_accepted w h =
      let e : way_back_reply rs i ≡ reply 0 (put_path w rs).at (put_path w rs).rows =
      rw (
        (true_iff (held_path rs i)).0 h.path,
        h.is_back,
        le-ltb max_nesting (nest_path w) h.nesting,
        le-ltb max_rows (length (put_path w rs).rows) h.space,
      ) refl in
      ap (λ (r : Reply). r.number) e

  none_by : (r : Reply) → Outcome rs i r → r.number ≡ 7 → T (held_path rs i) × (way_back (path_at rs i) ≡ none)
  none_by r (no_path e) z = absurd (omega (arith, z))
  none_by r (no_back e q) z = (so _ e, q)
  none_by r too_deep z = absurd (omega (arith, z))
  none_by r too_many z = absurd (omega (arith, z))
  none_by r (has_back w h) z = absurd (omega (arith, z))

  -- 7 is answered just where a held path has none
  pub none_iff : ((way_back_reply rs i).number ≡ 7) ↔ (T (held_path rs i) × (way_back (path_at rs i) ≡ none))
  unfolding way_back_reply back_reply
  none_iff = (
    none_by _ outcome,
    λ (t, q).
        let e : way_back_reply rs i ≡ reply 7 0 rs = rw ((true_iff (held_path rs i)).0 t, q) refl in
        ap (λ (r : Reply). r.number) e,
  )

  -- the rows of an accepted call are accepted rows, and the last one's term is the way back
  pub back_stands : Built rs → (w : Path) → HasWayBack rs i w
      → Stands (put_path w rs).rows (put_path w rs).at (of_path w) (nest_path w)
  back_stands built w has =
      let (h, k) = path_held rs i ((true_iff (held_path rs i)).0 has.path) in
      path_stands FineStep (λ a t c f. f) w rs built ((back_law built i h k).steps w has.is_back) has.nesting
