-- The proofs of the theorems.
use Rattle.calls.proofs.Returns.{return_restores}
use Rattle.calls.proofs.SelectLaws.{limit_suffices, marks_same_elsewhere}
use Rattle.calls.proofs.TextLaws.{answers_as_defined, as_term_calls, gives_its_term, gives_its_nesting}
use Rattle.selector_grammar.proofs.Abbreviated.{expanded, meant}
use Rattle.matching.proofs.RowYields.{row_yields_iff}
use Rattle.term_order.proofs.BundleOrder.{steps_ordered}
use Rattle.term_order.proofs.Orders.{total_order}
use Rattle.term_order.proofs.Sorted.{sorted_match}
use Rattle.term_order.proofs.TermOrder.{terms_ordered}
use Rattle.records.proofs.Crew.{shows_released}
use Rattle.records.proofs.Shown.{shows_in_order}
use Rattle.rules.proofs.Sound.{yields_sound}
use Rattle.xpath.proofs.Chain.{chain_visits}
use Rattle.xpath.proofs.Climbing.{count_ends, count_least, answers_alike, refuses_alike}
use Rattle.xpath.proofs.OneName.{step_same_elsewhere}
use Rattle.tallies.proofs.Source as tallies
use Rattle.xpath.proofs.Source as xpath
use Rattle.xpath.proofs.AxisLaws as axis-laws
use Rattle.xpath.proofs.Refusal.{accepted_iff}
use Rattle.rules.proofs.RuleTen.{star_ending_yields, node_ending_yields}
use Rattle.rules.proofs.WayBackSound.{way_back_selects}
use Rattle.selector_grammar.proofs.Place.{one_tree}
use Rattle.session.proofs.Simulation as simulation
use Rattle.session.proofs.Takes as session-takes
use Rattle.session.proofs.Source as session
use Rattle.register.proofs.Takes as register-takes
use Rattle.register.proofs.Source as register
use Rattle.host_calls.proofs.Takes as exports-takes
use Rattle.host_calls.proofs.Source as exports
use Rattle.theorems.specs.Calls.{Calls}
use Rattle.theorems.specs.Selection.{Selection}
use Rattle.theorems.specs.Rules.{Rules}
use Rattle.theorems.specs.Book.{Book}
use Rattle.theorems.specs.Bundles.{Bundles}
use Rattle.theorems.specs.Editions.{Editions}
use Rattle.theorems.specs.Laws.{MeaningLaws, SessionLaws, RegisterLaws, HostLaws, ProgramLaws, Laws, DocumentLaws}
use Rattle.theorems.specs.Laws.{SearchLaws}
use Rattle.theorems.specs.Exist.{SessionCalls, RegisterCalls, HostCalls, ProgramCalls, Exist}
use Rattle.theorems.specs.Theorems.{Theorems}
use Rattle.documents.proofs.LentRows.{refused_alike}
use Rattle.session_documents.proofs.Takes as documents-takes
use Rattle.session_documents.proofs.Source as documents
use Rattle.theorems.proofs.Derivations.{derived_guarantee}

calls : Calls
calls =
    record {
      takes = session-takes.takes;
      register_takes = register-takes.takes;
      host_takes = exports-takes.takes;
      call = session.call_tied;
      by_terms = simulation.answers_by_terms;
      register_call = register.call_tied;
      accept_guarantee = session.accept_guarantee;
    }

selection : Selection
selection =
    record {
      select = session.select_tied;
      text_select = exports.select_tied;
      select_guarantee = exports.select_guarantee;
    }

rules : Rules
rules =
    record {
      rules_sound = yields_sound;
      matcher_decides = λ rs built. row_yields_iff built;
    }

book : Book
book =
    record {
      new = session.new_tied;
      book_guarantee = session.book_guarantee;
    }

bundles : Bundles
bundles =
    record {
      read = session.read_tied;
      write = session.write_tied;
      read_guarantee = session.read_guarantee;
      claim = exports.claim_tied;
      claim_guarantee = exports.claim_guarantee;
    }

editions : Editions
editions =
    record {
      new_register = register.new_tied;
      register_guarantee = register.register_guarantee;
      record_guarantee = register.record_guarantee;
      shows_released = shows_released;
      releases_kept = register.releases_kept;
      crew_isolated = register.crew_isolated;
    }

meaning_laws : MeaningLaws
meaning_laws =
    record {
      document_accepted = accepted_iff;
      five_axes_partition = axis-laws.five_axes_partition;
      axes_to_attribute = axis-laws.axes_to_attribute;
      axes_from_attribute = axis-laws.axes_from_attribute;
      following_attribute = axis-laws.following_attribute;
      chain_visits = chain_visits;
      step_same_elsewhere = step_same_elsewhere;
      count_ends = count_ends;
      count_least = count_least;
      answers_alike = answers_alike;
      refuses_alike = refuses_alike;
      document_checked = xpath.checked_tied;
      climb_made = xpath.climbed_tied;
      climb_promise = xpath.climb_promise;
      rule_10_star = star_ending_yields;
      rule_10_node = node_ending_yields;
      way_back_selects = way_back_selects;
      one_tree = one_tree;
    }

session_laws : SessionLaws
session_laws =
    record {
      answers_as_defined = answers_as_defined;
      as_term_calls = as_term_calls;
      gives_its_term = gives_its_term;
      gives_its_nesting = gives_its_nesting;
      expanded = expanded;
      meant = meant;
      reversed = session.reversed_tied;
      replace = session.replace_tied;
      order = session.order_tied;
      bundle_order_is = session.bundle_order_tied;
      step_saying_is = λ κs a r x m. m;
      steps_held_is = λ κs a r x m. m;
      rule_uses = λ κs a r x m. m;
      last_step = λ κs a r x m. m;
      whole_session = session.whole_session;
      no_point_left = session.no_point_left;
      session_restored = session.session_restored;
      return_restores = return_restores;
      way_back_guarantee = session.way_back_guarantee;
      replace_guarantee = session.replace_guarantee;
      terms_ordered = total_order terms_ordered;
      steps_ordered = total_order steps_ordered;
      sorted_match = sorted_match terms_ordered;
      order_guarantee = session.order_guarantee;
      limit_suffices = limit_suffices;
      marks_same_elsewhere = marks_same_elsewhere;
    }

register_laws : RegisterLaws
register_laws =
    record {
      current_is = register.current_tied;
      listing = register.listing_tied;
      crew_listing_is = register.crew_listing_tied;
      crew_current_is = register.crew_current_tied;
      reversed = register.reversed_tied;
      select = register.select_tied;
      replace = register.replace_tied;
      order = register.order_tied;
      bundle_order_is = register.bundle_order_tied;
      write = register.write_tied;
      read = register.read_tied;
      replace_guarantee = register.replace_guarantee;
      way_back_guarantee = register.way_back_guarantee;
      order_guarantee = register.order_guarantee;
      shows_in_order = shows_in_order;
      released_again = register.released_again;
    }

host_laws : HostLaws
host_laws =
    record {
      read = exports.read_tied;
      read_line = exports.read_line_tied;
      file = exports.file_tied;
      file_guarantee = exports.file_guarantee;
    }

program_laws : ProgramLaws
program_laws =
    record {
      audit = λ κs a r s m. m;
      judged = tallies.judged_tied;
      tally = tallies.tally_promise;
    }

document_laws : DocumentLaws
document_laws =
    record {
      takes = documents-takes.takes;
      check = λ κs a r x m. m;
      refused_alike = refused_alike;
      nodes = documents.nodes_tied;
      from = documents.from_tied;
      text = documents.text_tied;
      text_nodes_meant = documents.text_nodes_meant;
      nodes_alike = documents.nodes_alike;
      nodes_contained = documents.nodes_contained;
    }

search_laws : SearchLaws
search_laws =
    record {
      derive = λ κs a r x m. m;
      derived = derived_guarantee;
    }

laws : Laws
laws =
    record {
      meaning = meaning_laws;
      session = session_laws;
      register = register_laws;
      host = host_laws;
      programs = program_laws;
      documents = document_laws;
      search = search_laws;
    }

session_calls : SessionCalls
session_calls =
    record {
      new_exists = session.new_exists;
      calls_exist = session.calls_exist;
      selects_exist = session.selects_exist;
      reads_exist = session.reads_exist;
      ways_back_exist = session.ways_back_exist;
      replaces_exist = session.replaces_exist;
      orders_exist = session.orders_exist;
      bundle_orders_exist = session.bundle_orders_exist;
      writes_exist = session.writes_exist;
    }

register_calls : RegisterCalls
register_calls =
    record {
      new_exists = register.new_exists;
      calls_exist = register.calls_exist;
      currents_exist = register.currents_exist;
      listings_exist = register.listings_exist;
      crew_listings_exist = register.crew_listings_exist;
      crew_currents_exist = register.crew_currents_exist;
      selects_exist = register.selects_exist;
      ways_back_exist = register.ways_back_exist;
      replaces_exist = register.replaces_exist;
      orders_exist = register.orders_exist;
      bundle_orders_exist = register.bundle_orders_exist;
      writes_exist = register.writes_exist;
      reads_exist = register.reads_exist;
    }

host_calls : HostCalls
host_calls =
    record {
      reads_exist = exports.reads_exist;
      read_lines_exist = exports.read_lines_exist;
      claims_exist = exports.claims_exist;
      text_selects_exist = exports.text_selects_exist;
      files_exist = exports.files_exist;
    }

program_calls : ProgramCalls
program_calls =
    record {
      judges_exist = tallies.judges_exist;
      new_exists = tallies.new_exists;
      adds_exist = tallies.adds_exist;
      lines_exist = tallies.lines_exist;
    }

exist : Exist
exist =
    record {
      session = session_calls;
      register = register_calls;
      host = host_calls;
      programs = program_calls;
      climbs_exist = xpath.climbs_exist;
    }

pub theorems : Theorems
theorems =
    record {
      calls = calls;
      selection = selection;
      rules = rules;
      book = book;
      bundles = bundles;
      editions = editions;
      laws = laws;
      exist = exist;
    }
