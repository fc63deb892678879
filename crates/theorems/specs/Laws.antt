-- The other promises of the calls, and the laws that the words of all rest on.
use Rattle.std.specs.Prelude.{ℕ, ◌*◌, ◌≤◌, ◌<◌, ◌≡◌, Bool, List, ◌↔◌, T, length, Result}
use Rattle.std.proofs.Math.Option.{none, some}
use Rattle.calls.specs.Book.{Answer}
use Rattle.calls.specs.PointLaws.{ReturnRestores}
use Rattle.calls.specs.Promises.{sides_of}
use Rattle.calls.specs.SelectLaws.{LimitSuffices, MarksSameElsewhere}
use Rattle.calls.specs.StepCall.{step_numbered}
use Rattle.calls.specs.TextLaws.{AnswersAsDefined, AsTermCalls, GivesItsTerm, GivesItsNesting}
use Rattle.calls.specs.Uses.{uses_of}
use Rattle.calls.specs.represent.Answers.{NumberOrRefusal, DoneOrRefusal, OrderOrRefusal}
use Rattle.common.specs.NodeTests.{star_test, node_test}
use Rattle.auditing.specs.Audit.{report}
use Rattle.host_calls.specs.FileGuarantee.{FileGuarantee}
use Rattle.script_bundle.specs.Filing.{FileMet}
use Rattle.selector_grammar.specs.Abbreviations.{Expanded, Meant}
use Rattle.selector_grammar.specs.Bytes.{Bytes}
use Rattle.selector_grammar.specs.Grammar.{Union, Spells}
use Rattle.matching.specs.represent.Sides.{sides_in}
use Rattle.term_order.specs.BundleOrder.{steps_order}
use Rattle.term_order.specs.OrderLaws.{TotalOrder, SortedMatch}
use Rattle.term_order.specs.TermOrder.{term_order}
use Rattle.records.specs.Records.{current}
use Rattle.records.specs.Releases.{crew_listing, crew_current, ShowsInOrder}
use Rattle.records.specs.declared.Record.{Record}
use Rattle.records.specs.declared.Records.{Records}
use Rattle.records.specs.represent.Held.{records_in}
use Rattle.records.specs.represent.Listed.{listed}
use Rattle.register.specs.FollowsRegister.{ReleasedAgain}
use Rattle.register.specs.Promises.{RegisterWayBackMet, RegisterReadMet, released_in}
use Rattle.register.specs.RecordGuarantee.{RegisterReplaceGuarantee, RegisterWayBackGuarantee}
use Rattle.register.specs.RecordGuarantee.{RegisterOrderGuarantee}
use Rattle.register.specs.declared.Register.{Register}
use Rattle.register.specs.represent.Results as register-read
use Rattle.replacement.specs.Covered.{step_saying}
use Rattle.rules.specs.WayBack.{way_back}
use Rattle.rules.specs.EndingYields.{EndingYields}
use Rattle.session.specs.OrderGuarantee.{OrderMet, BundleOrderMet, OrderGuarantee}
use Rattle.session.specs.Promises.{SelectMet}
use Rattle.session.specs.Reading.{reading}
use Rattle.session.specs.ReplaceGuarantee.{ReplaceMet, ReplaceGuarantee}
use Rattle.session.specs.WayBackGuarantee.{WayBackMet, WayBackGuarantee}
use Rattle.session.specs.SessionLaws.{WholeSession, NoPointLeft, SessionRestored}
use Rattle.session.specs.View.{view}
use Rattle.session.specs.WriteCall.{WriteMet}
use Rattle.session.specs.declared.session.Session.{Session}
use Rattle.tallies.specs.NameList.{list_answer}
use Rattle.tallies.specs.Promise.{TallyPromise}
use Rattle.terms.specs.represent.RowTypes.{PlaceIs}
use Rattle.xpath.specs.AxisLaws.{FiveAxesPartition, AxesToAttribute, AxesFromAttribute, FollowingAttribute}
use Rattle.xpath.specs.Chain.{ChainVisits}
use Rattle.xpath.specs.Climb.{CountEnds, CountLeast, AnswersAlike, RefusesAlike}
use Rattle.xpath.specs.Document.{Document, document_of, document_refusal, well_formed}
use Rattle.xpath.specs.Meaning.{selects}
use Rattle.xpath.specs.OneName.{StepSameElsewhere}
use Rattle.xpath.specs.Term.{Path}
use Rattle.xpath.specs.declared.document.Climb.{Climb}
use Rattle.xpath.specs.represent.Check.{ClimbMade, DocumentChecked}
use Rattle.xpath.specs.represent.ClimbPromise.{ClimbPromise}
use Rattle.auditing.proofs.audit.Reads as audit-reads
use Rattle.host_calls.proofs.Source as exports
use Rattle.register.proofs.Source as register
use Rattle.session.proofs.Source as session
use Rattle.session.proofs.session.Session.step_saying.Reads as step-saying-reads
use Rattle.session.proofs.session.Session.steps_held.Reads as steps-held-reads
use Rattle.session.proofs.session.Session.rule_uses.Reads as rule-uses-reads
use Rattle.session.proofs.session.Session.last_step.Reads as last-step-reads
use Rattle.tallies.proofs.Source as tallies
use Rattle.xpath.proofs.Source as xpath
use Rattle.documents.specs.Documents.{rows_in, doc, refused_row, ChecksTo}
use Rattle.documents.specs.declared.document.Document.{Document as CheckedDocument}
use Rattle.documents.proofs.document.Document.check.Reads as check-reads
use Rattle.document_calls.specs.Selections.{NodesSelected, NodesSelectedFrom}
use Rattle.document_calls.specs.declared.selection_error.SelectionError.{SelectionError}
use Rattle.session_documents.specs.TextNodes.{TextNodesSelected}
use Rattle.session_documents.specs.NodesGuarantee.{NodesAlike, NodesContained, TextNodesMeant}
use Rattle.session_documents.proofs.Takes as documents-takes
use Rattle.session_documents.proofs.Source as documents
use Rattle.std.specs.Global.{Vec}
use Rattle.std.specs.Prelude.{IfOk}
use Rattle.derivations.specs.Derived.{Derived}
use Rattle.derivations.specs.Meant.{DerivedGuarantee}
use Rattle.derivations.proofs.derive.Reads as derive-reads

-- of documents, axes, rules and selectors
pub record MeaningLaws : Type 0 where
  -- lent numbers are accepted as a document just where they are whole rows, at most 512, of a well-formed one
  pub document_accepted : (xs : List ℕ) → (document_refusal xs ≡ none)
      ↔ ((length xs ≡ 3 * length (document_of xs)) × (length (document_of xs) ≤ 512)
      × T (well_formed (document_of xs)))
  -- from every node, each node that is no attribute is on exactly one of the axes self, ancestor, descendant, following
  -- and preceding
  pub five_axes_partition : FiveAxesPartition
  -- an attribute is on no axis of another node but axis 11; from it there is no child, attribute, descendant or
  -- sibling, and what follows it is every later node that is no attribute, its parent's children among them
  pub axes_to_attribute : AxesToAttribute
  pub axes_from_attribute : AxesFromAttribute
  pub following_attribute : FollowingAttribute
  -- the visits of a path of k steps are at most the bound; of two documents that differ in the name of one node, a
  -- single step selects every other node alike
  pub chain_visits : ChainVisits
  pub step_same_elsewhere : StepSameElsewhere
  -- the ancestor test: its count ends the climb and is the least that does, and it answers as the climb to the root
  -- does
  pub count_ends : CountEnds
  pub count_least : CountLeast
  pub answers_alike : AnswersAlike
  pub refuses_alike : RefusesAlike
  -- the check of a document, and the ancestor test that it runs for each row whose parent isn't the row before it, as
  -- the source has them: the test's count of parents is the least that ends the climb so, and its answer is that of the
  -- climb to the root
  pub document_checked : (xs : List ℕ) (r : Result (List ℕ) ℕ) → xpath.Checked xs r → DocumentChecked xs r
  pub climb_made : (xs : List ℕ) (x y e : ℕ) (es : List ℕ) (r : Climb) (left : List ℕ)
      → xpath.Climbed xs x y e es r left → ClimbMade (document_of xs) x y e es r.met r.parents left
  pub climb_promise : ClimbPromise xpath.Climbed
  -- rule 10 yields its conclusion where the second premise ends in `*`, and where it ends in node()
  pub rule_10_star : EndingYields star_test
  pub rule_10_node : EndingYields node_test
  -- where a path that has a way back selects y from x, its way back selects x from y
  pub way_back_selects : (d : Document) → T (well_formed d) → (p v : Path) → way_back p ≡ some v
      → (x y : ℕ) → x < length d → T (selects d p x y) → T (selects d v y x)
  -- a text of the grammar has one tree
  pub one_tree : (t : Bytes) (u v : Union) → Spells t u → Spells t v → u ≡ v

-- of the other calls on a session, and of its texts, points and orders
pub record SessionLaws : Type 0 where
  -- a text call's number, value and rows are those of the grammar's definition, which has no others; an accepted one
  -- does what term calls of its new rows do, and the row that it answers has the term of the text's tree, and its
  -- nesting
  pub answers_as_defined : AnswersAsDefined
  pub as_term_calls : AsTermCalls
  pub gives_its_term : GivesItsTerm
  pub gives_its_nesting : GivesItsNesting
  -- an abbreviation has the term of what it stands for;
  -- what a leading `/`, a predicate and its parts mean on a document
  pub expanded : Expanded
  pub meant : Meant
  -- way-back, by row numbers, answers the first refusal that applies, or 0 and leaves the rows that the way back needs
  pub reversed : (s : Session) (row : ℕ) (a : Answer) (t : Session) → session.Reversed s row a t → WayBackMet s row a t
  -- replace answers the first refusal that applies, or accepts
  pub replace : (s : Session) (old new by : List ℕ) (t : DoneOrRefusal)
      → session.Replaced s old new by t → ReplaceMet s old new by t
  -- order answers 5 for a row that is not held, or the order of the rows' terms; bundle order answers that of the steps
  pub order : (s : Session) (i : ℕ) (t : Session) (j : ℕ) (r : OrderOrRefusal) → session.Ordered s i t j r
      → OrderMet s i t j r
  pub bundle_order_is : (s t : Session) (r : OrderOrRefusal) → session.BundleOrdered s t r → BundleOrderMet s t r
  -- the first step that says that one row is contained in another, if there is one, the number of steps, that of a
  -- rule's steps, and the rows of the last step are those of the steps held
  pub step_saying_is : (κs : _) (a : _) (r : _) (x : _) → step-saying-reads.Post κs a r x
      → PlaceIs r (step_saying (view a.0.now) a.1.0 a.1.1.0)
  pub steps_held_is : (κs : _) (a : _) (r : _) (x : _) → steps-held-reads.Post κs a r x
      → r ≡ length (view a.0.now).steps
  pub rule_uses : (κs : _) (a : _) (r : _) (x : _) → rule-uses-reads.Post κs a r x
      → r ≡ uses_of a.1.0 (view a.0.now).steps
  pub last_step : (κs : _) (a : _) (r : _) (x : _) → last-step-reads.Post κs a r x
      → sides_in r ≡ sides_of (step_numbered (view a.0.now).steps (length (view a.0.now).steps))
  -- after every such list the session is, as a whole value, the one that the book determines, without points where none
  -- was set; and returning to a point restores the whole session that setting it left, and the book
  pub whole_session : WholeSession session.New session.Called
  pub no_point_left : NoPointLeft session.New session.Called
  pub session_restored : SessionRestored session.New session.Called
  pub return_restores : ReturnRestores
  -- the way back of a row, after every list of calls from a fresh session: way-back answers what is defined by the way
  -- back of the row's path and by the rows that this needs; an accepted call leaves, as a whole session, what accepted
  -- term calls of the new rows leave, and the row that it answers is the way back; a refused one leaves the session
  pub way_back_guarantee : WayBackGuarantee session.Reversed session.Called session.New
  -- a whole set replaced: after every list of calls from a fresh session, each node that any path of a covered list
  -- selects is selected by some new one, from the same node of every document; an accepted replace is a case of it
  pub replace_guarantee : ReplaceGuarantee session.Replaced session.New session.Called
  -- the order of terms, and that of lists of steps as terms, is total, and equal holds just when both are the same;
  -- sorted lists that hold the same terms are the same list
  pub terms_ordered : TotalOrder term_order
  pub steps_ordered : TotalOrder steps_order
  pub sorted_match : SortedMatch term_order
  -- after every two lists of calls, each from a fresh session, order answers the order of the terms, also for lists of
  -- rows that were sorted by it, each in its session
  pub order_guarantee : OrderGuarantee session.Ordered session.BundleOrdered session.New session.Called
  -- a select call on a path of k steps, with a limit of at least the bound, is never answered 15; two accepted calls of
  -- one step of a path, on lent numbers that differ in the name of one node, mark every other node alike
  pub limit_suffices : LimitSuffices
  pub marks_same_elsewhere : MarksSameElsewhere

-- of the other calls on a register
pub record RegisterLaws : Type 0 where
  -- current answers the highest edition of the series, 0 if it has none
  pub current_is : (r : Register) (series e : ℕ) → register.Current r series e
      → e ≡ current (records_in r.records) series
  -- the office's listing has all records, a crew's the released ones, and so with a crew's current edition
  pub listing : (r : Register) (l : Records) → register.Listing r l → l ≡ listed (records_in r.records)
  pub crew_listing_is : (r : Register) (l : Records) → register.CrewListing r l → l
      ≡ listed (crew_listing (released_in r))
  pub crew_current_is : (r : Register) (series e : ℕ) → register.CrewCurrent r series e
      → e ≡ crew_current (released_in r) series
  -- way-back is that of the register's session, beside the same records and releases
  pub reversed : (r : Register) (row : ℕ) (a : Answer) (t : Register) → register.Reversed r row a t
      → RegisterWayBackMet r row a t
  -- select, replace, order, bundle order and write are those of the register's session
  pub select : (s : Session) (row : ℕ) (xs : List ℕ) (x limit : ℕ) (buffer : List ℕ) (t : NumberOrRefusal)
      (left : List ℕ) → register.Selected s row xs x limit buffer t left → SelectMet s row xs x limit buffer t left
  pub replace : (r : Register) (old new by : List ℕ) (t : DoneOrRefusal) → register.Replaced r old new by t
      → ReplaceMet r.session old new by t
  pub order : (q : Register) (i : ℕ) (r : Register) (j : ℕ) (t : OrderOrRefusal) → register.Ordered q i r j t
      → OrderMet q.session i r.session j t
  pub bundle_order_is : (q r : Register) (t : OrderOrRefusal) → register.BundleOrdered q r t
      → BundleOrderMet q.session r.session t
  pub write : (r : Register) (buffer : List ℕ) (w : NumberOrRefusal) (left : List ℕ) → register.Write r buffer w left
      → WriteMet r.session buffer w left
  -- read gives what the session's does, without records and releases
  pub read : (bytes : List ℕ) (t : register-read.ReadResult) → register.Read bytes t → RegisterReadMet bytes t
  -- after every list of calls from a fresh register, record, release and refused returns among them: replace and the
  -- orders keep what they promise on a session
  pub replace_guarantee : RegisterReplaceGuarantee register.New register.Called register.Replaced
  pub way_back_guarantee : RegisterWayBackGuarantee register.New register.Called register.Reversed
  pub order_guarantee : RegisterOrderGuarantee register.New register.Called register.Ordered register.BundleOrdered
  -- what a crew gets is in the register's order, each place once
  pub shows_in_order : (rs : List Record) (fs : List ℕ) → ShowsInOrder rs fs
  -- releasing again is accepted and changes nothing
  pub released_again : ReleasedAgain register.Called

-- of the calls for a host in C
pub record HostLaws : Type 0 where
  -- a bundle is answered as read answers it, the number alone or with its value
  pub read : (bytes : Bytes) (n : ℕ) → exports.Reads bytes n → n ≡ (reading bytes).answer.number
  pub read_line : (bytes : Bytes) (a : Answer) → exports.ReadLines bytes a → a ≡ (reading bytes).answer
  -- a script is filed as it is defined: the calls of its lines from a fresh session, and the bundle of what they leave;
  -- the first refused line is answered, and leaves the buffer
  pub file : (script buffer left : Bytes) (a : Answer) → exports.Files script buffer a left
      → FileMet script buffer a left
  pub file_guarantee : FileGuarantee exports.Files

-- of the programs
pub record ProgramLaws : Type 0 where
  -- what audit prints is the report of the bytes
  pub audit : (κs : _) (a : _) (r : _) (s : _) → audit-reads.Post κs a r s → r ≡ report a.0.now
  -- a list of names is answered 17 with the first line that is a 65th name or whose file can't be opened, else 0
  pub judged : (list : List ℕ) (opened : List Bool) (a : Answer) → tallies.Judged list opened a
      → a ≡ list_answer list opened
  -- what tally prints, after the files that the calls added in order, are the uses of each rule over the accepted
  -- bundles, and they add up to the total
  pub tally : TallyPromise tallies.New tallies.Added tallies.Lines

-- the calls on documents of any size
pub record DocumentLaws : Type 0 where
  -- every call takes every input: the contracts in the source ask nothing
  pub takes : documents-takes.Takes
  -- the check answers refusal 8 for rows of any number, or is the document of the rows; whole lent rows, at most 512 of
  -- them, are refused alike by `select`
  pub check : (κs : _) (a : _) (r : _) (x : _) → check-reads.Post κs a r x → ChecksTo (rows_in a.0) r
  pub refused_alike : (xs : List ℕ) → length xs ≡ 3 * length (document_of xs) → length (document_of xs) ≤ 512
      → document_refusal xs ≡ refused_row (document_of xs)
  -- a select answers the first refusal that applies, or marks the nodes that the path selects from the node, or from
  -- some marked node; or memory ran out
  pub nodes : (s : Session) (row : ℕ) (d : CheckedDocument) (x : ℕ) (r : Result (Vec Bool) SelectionError)
      → documents.NodesMarked s row d x r → NodesSelected (view s).rows row (doc d) x r
  pub from : (s : Session) (row : ℕ) (d : CheckedDocument) (context : List Bool)
      (r : Result (Vec Bool) SelectionError) → documents.NodesMarkedFrom s row d context r
      → NodesSelectedFrom (view s).rows row (doc d) context r
  -- by a text it is the text call on a fresh session and the select of its row; it marks what the text's path selects
  pub text : (names t : Bytes) (d : CheckedDocument) (x : ℕ) (r : Result (Vec Bool) SelectionError)
      → documents.TextNodesMarked names t d x r → TextNodesSelected names t (doc d) x r
  pub text_nodes_meant : TextNodesMeant documents.TextNodesMarked
  -- where `select` accepts, a select on the document of the same rows marks the same nodes
  pub nodes_alike : NodesAlike session.Selected documents.NodesMarked
  -- after every list of calls from a fresh session, of a held step that says that p is contained in q: on every
  -- document, from every node, each node that is marked for p is marked for q
  pub nodes_contained : NodesContained session.New session.Called documents.NodesMarked

-- the search for a derivation
pub record SearchLaws : Type 0 where
  -- where `derive` has an answer, calls from a fresh session lead to its session, and its step says of the rows of both
  -- texts that the old one is contained in the new one
  pub derive : (κs : _) (a : _) (r : _) (x : _) → derive-reads.Post κs a r x
      → IfOk r (λ d. Derived a.1.0.now a.1.1.0.now a.1.1.1.0.now d.session d.step)
  -- and so it is: on every document of any size, from every node, each node that the old selector selects, the new one
  -- selects
  pub derived : DerivedGuarantee

pub record Laws : Type 0 where
  pub meaning : MeaningLaws
  pub session : SessionLaws
  pub register : RegisterLaws
  pub host : HostLaws
  pub programs : ProgramLaws
  pub documents : DocumentLaws
  pub search : SearchLaws
