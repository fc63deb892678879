-- Clauses of the theorems that no crate below writes out: without one of them this fails.
use Prim.Native.Nat.{ℕ, ◌≤◌, ◌<◌}
use mathlib.Core.Path.{◌≡◌}
use mathlib.Core.Bool.{Bool, false, not, cond, ◌&&◌}
use mathlib.Core.List.{List, map}
use mathlib.Core.Logic.{◌⊎◌}
use mathlib.Core.Option.{none, some}
use Rattle.std.specs.Prelude.{Ok, Err}
use Rattle.std.specs.Global.{Vec}
use lib.Dec.{T, eqb, leb}
use lib.ListN.{length, get_or}
use Rattle.common.specs.Lists.{any_of, Every}
use Rattle.xpath.specs.Document.{Document, document_of, parent_at, is_ancestor, well_formed}
use Rattle.xpath.specs.Climb.{above}
use Rattle.xpath.specs.Meaning.{selects}
use Rattle.common.specs.Bounded.{any_below}
use Rattle.common.specs.declared.refusal.Refusal.{Refusal}
use Rattle.common.specs.declared.refusal.Refusal.TheVariants.{BadArgument}
use Rattle.terms.specs.Fields.{held_path}
use Rattle.terms.specs.Terms.{path_at}
use Rattle.documents.specs.Documents.{doc}
use Rattle.documents.specs.declared.document.Document.{Document as CheckedDocument}
use Rattle.document_calls.specs.declared.selection_error.SelectionError.TheVariants.{Refused}
use Rattle.session.specs.declared.session.Session.{Session}
use Rattle.session.specs.View.{view}
use Rattle.session_documents.proofs.Source.{NodesMarked, NodesMarkedFrom}
use Rattle.xpath.specs.declared.document.Climb.{Climb}
use Rattle.xpath.proofs.Source.{Climbed}
use Rattle.records.specs.declared.Record.{Record}
use Rattle.records.specs.Records.{empty_record}
use Rattle.records.specs.Releases.{released, Increasing, ShowsInOrder}
use Rattle.theorems.specs.Theorems.{Theorems}

module _ (theorems : Theorems) where
  -- a climb from y toward x
  module _ (xs : List ℕ) (x y e : ℕ) (es : List ℕ) (r : Climb) (left : List ℕ) (climbed : Climbed xs x y e es r left)
    where
      abbrev d : Document
      d = document_of xs

      -- its count ends it, and no fewer parents do
      pub climb_ends : (above d r.parents y ≤ x) ⊎ (above d r.parents y ≤ parent_at d (above d r.parents y))
      climb_ends = (theorems.laws.meaning.climb_promise.ends xs x y e es r left climbed).ends

      pub climb_goes_on : (j : ℕ) → j < r.parents → (x < above d j y) × (parent_at d (above d j y) < above d j y)
      climb_goes_on = (theorems.laws.meaning.climb_promise.ends xs x y e es r left climbed).earlier

      module _ (w : T (well_formed d)) (h : y < length d) where
        pub count_leads : above d r.parents y ≤ x
        count_leads = (theorems.laws.meaning.climb_promise.least xs x y e es r left climbed w h).ends

        pub no_fewer_lead : (j : ℕ) → j < r.parents → x < above d j y
        no_fewer_lead = (theorems.laws.meaning.climb_promise.least xs x y e es r left climbed w h).earlier

        pub answers_ancestor : r.met ≡ is_ancestor d x y
        answers_ancestor = theorems.laws.meaning.climb_promise.answers xs x y e es r left climbed w h

  -- what a crew gets
  module _ (rs : List Record) (fs : List ℕ) where
    abbrev shown : ShowsInOrder rs fs
    shown = theorems.laws.register.shows_in_order rs fs

    pub places_in_order : Increasing shown.places
    places_in_order = shown.in_order

    pub places_released : Every (λ i. (i < length rs) × (get_or fs i 0 ≡ 1)) shown.places
    places_released = shown.no_other

    pub released_have_places : (i : ℕ) → i < length rs → get_or fs i 0 ≡ 1 → T (any_of (λ j. eqb j i) shown.places)
    released_have_places = shown.each

    pub records_shown : released rs fs ≡ map (λ i. get_or rs i empty_record) shown.places
    records_shown = shown.shown

  -- a select on a document of any size from a node, answered with marks
  module _ (s : Session) (row : ℕ) (d : CheckedDocument) (x : ℕ) where
    module _ (v : Vec Bool) (marked : NodesMarked s row d x (Ok v)) where
      pub mark_for_each_node : length v.items ≡ length (doc d)
      mark_for_each_node = (theorems.laws.documents.nodes s row d x (Ok v) marked).1.size

      pub node_marked : (y : ℕ) → y < length (doc d)
          → get_or v.items y false ≡ selects (doc d) (path_at (view s).rows row) x y
      node_marked = (theorems.laws.documents.nodes s row d x (Ok v) marked).1.each

    -- and refused
    pub select_refused : (e : Refusal) → NodesMarked s row d x (Err (Refused e))
        → some e ≡ cond (leb (length (doc d)) x) (some (BadArgument 1))
        (cond (not (held_path (view s).rows row)) (some (BadArgument 2)) none)
    select_refused e refused = theorems.laws.documents.nodes s row d x (Err (Refused e)) refused

  -- from a set of nodes
  module _ (s : Session) (row : ℕ) (d : CheckedDocument) (context : List Bool) (v : Vec Bool)
      (marked : NodesMarkedFrom s row d context (Ok v)) where
    pub node_marked_from : (y : ℕ) → y < length (doc d) → get_or v.items y false
        ≡ any_below (length context)
        (λ x. get_or context x false && selects (doc d) (path_at (view s).rows row) x y)
    node_marked_from = (theorems.laws.documents.from s row d context (Ok v) marked).1.each
