-- `on_axis` meets its contract.
use Rattle.std.proofs.Common.{ℕ, Bool, ◌≡◌, ◌<◌, ◌&&◌, ◌||◌, not, eqb, List, length, get_or, refl, sym, ap, ◌∙◌, arith}
use Rattle.xpath.specs.Axis.{on_axis}
use Rattle.set_selection.specs.Sets.{Image, marked}
use Rattle.set_selection.specs.Walks.{is_under, is_over, is_below, is_above, is_after, is_before, is_later, is_earlier}
use Rattle.set_selection.proofs.Images.{image_cong, image_then, image_kept, image_self, image_or, ok_to}
use Rattle.set_selection.proofs.Relations.{child_axis, attribute_axis, parent_axis, descendant_axis, ancestor_axis}
use Rattle.set_selection.proofs.Relations.{self_axis, descendant_or_self_axis, ancestor_or_self_axis, following_axis}
use Rattle.set_selection.proofs.Relations.{preceding_axis, following_sibling_axis, preceding_sibling_axis}
use Rattle.set_selection.proofs.columns.Columns.on_axis.Goals as goal

pub returns-in-Itself : goal.returns-in-Itself
returns-in-Itself c = rw c.in-Itself.is
    (ok_to _ c.from_slice.ensures.items (λ v u. image_cong (image_self u) (λ x y h k. self_axis _ _ _ x y)))

pub returns-in-Parent : goal.returns-in-Parent
returns-in-Parent c = rw c.in-Parent.is (ok_to _ c.over.ensures
    (λ v u. (image_cong u (λ x y h k. parent_axis _ _ _ _ c.args.self.now.sound x y))))

pub returns-in-Ancestor : goal.returns-in-Ancestor
returns-in-Ancestor c = rw c.in-Ancestor.is (ok_to _ c.above.ensures
    (λ v u. (image_cong u (λ x y h k. ancestor_axis _ _ _ _ c.args.self.now.sound x y (omega (arith, c.requires, h))
    (omega (arith, c.requires, k))))))

pub returns-in_ok-out-in-AncestorOrSelf : goal.returns-in_ok-out-in-AncestorOrSelf
returns-in_ok-out-in-AncestorOrSelf c = rw c.in-AncestorOrSelf.is
    (image_cong (image_or c.in_ok-out-in-AncestorOrSelf.ensures
    (image_self {m = c.args.marks.now} {out = c.args.marks.now} refl) c.united.ensures)
    (λ x y h k. ancestor_or_self_axis _ _ _ _ c.args.self.now.sound x y (omega (arith, c.requires, h))
    (omega (arith, c.requires, k))))

pub returns-in_ok-below-in-DescendantOrSelf : goal.returns-in_ok-below-in-DescendantOrSelf
returns-in_ok-below-in-DescendantOrSelf c = rw c.in-DescendantOrSelf.is
    (image_cong (image_or (image_then (λ y. not (eqb (get_or c.args.self.now.kinds.now y 0) 5))
    c.in_ok-below-in-DescendantOrSelf.ensures c.without_attributes-out.ensures)
    (image_self {m = c.args.marks.now} {out = c.args.marks.now} refl) c.united-in-DescendantOrSelf.ensures)
    (λ x y h k. descendant_or_self_axis _ _ _ _ c.args.self.now.sound x y (omega (arith, c.requires, h))
    (omega (arith, c.requires, k))))

pub returns-in_ok-out-in-Attribute : goal.returns-in_ok-out-in-Attribute
returns-in_ok-out-in-Attribute c = rw c.in-Attribute.is
    (image_cong (image_then (λ y. eqb (get_or c.args.self.now.kinds.now y 0) 5) c.in_ok-out-in-Attribute.ensures
    c.attributes.ensures) (λ x y h k. attribute_axis _ _ _ _ c.args.self.now.sound x y))

pub returns-in_ok-out-in-Child : goal.returns-in_ok-out-in-Child
returns-in_ok-out-in-Child c = rw c.in-Child.is
    (image_cong (image_then (λ y. not (eqb (get_or c.args.self.now.kinds.now y 0) 5)) c.in_ok-out-in-Child.ensures
    c.without_attributes.ensures) (λ x y h k. child_axis _ _ _ _ c.args.self.now.sound x y))

pub returns-in_ok-out-in-Descendant : goal.returns-in_ok-out-in-Descendant
returns-in_ok-out-in-Descendant c = rw c.in-Descendant.is
    (image_cong (image_then (λ y. not (eqb (get_or c.args.self.now.kinds.now y 0) 5))
    c.in_ok-out-in-Descendant.ensures c.without_attributes-in-Descendant.ensures)
    (λ x y h k. descendant_axis _ _ _ _ c.args.self.now.sound x y (omega (arith, c.requires, h))
    (omega (arith, c.requires, k))))

pub returns-in_ok-out-in-Following : goal.returns-in_ok-out-in-Following
returns-in_ok-out-in-Following c = rw c.in-Following.is
    (image_cong (image_then (λ y. not (eqb (get_or c.args.self.now.kinds.now y 0) 5)) c.in_ok-out-in-Following.ensures
    c.without_attributes-in-Following.ensures) (λ x y h k. following_axis _ _ _ _ c.args.self.now.sound x y
    (omega (arith, c.requires, h)) (omega (arith, c.requires, k))))

pub returns-in_ok-out-in-Preceding : goal.returns-in_ok-out-in-Preceding
returns-in_ok-out-in-Preceding c = rw c.in-Preceding.is
    (image_cong (image_then (λ y. not (eqb (get_or c.args.self.now.kinds.now y 0) 5)) c.in_ok-out-in-Preceding.ensures
    c.without_attributes-in-Preceding.ensures) (λ x y h k. preceding_axis _ _ _ _ c.args.self.now.sound x y
    (omega (arith, c.requires, h)) (omega (arith, c.requires, k))))

pub returns-in_ok-out-in-FollowingSibling : goal.returns-in_ok-out-in-FollowingSibling
returns-in_ok-out-in-FollowingSibling c =
    let u = rw c.deref.ensures.value at c.in_ok-out-in-FollowingSibling.ensures in
    rw c.in-FollowingSibling.is
    (image_cong (image_then (λ y. not (eqb (get_or c.args.self.now.kinds.now y 0) 5))
    (image_kept (λ y. not (eqb (get_or c.args.self.now.kinds.now y 0) 5))
    c.in_ok-others-in-FollowingSibling.ensures u) c.without_attributes-in-FollowingSibling.ensures)
    (λ x y h k. following_sibling_axis _ _ _ _ c.args.self.now.sound x y))

pub returns-in_ok-out-in-PrecedingSibling : goal.returns-in_ok-out-in-PrecedingSibling
returns-in_ok-out-in-PrecedingSibling c =
    let u = rw c.deref-in-PrecedingSibling.ensures.value at c.in_ok-out-in-PrecedingSibling.ensures in
    rw c.in-PrecedingSibling.is
    (image_cong (image_then (λ y. not (eqb (get_or c.args.self.now.kinds.now y 0) 5))
    (image_kept (λ y. not (eqb (get_or c.args.self.now.kinds.now y 0) 5))
    c.in_ok-others-in-PrecedingSibling.ensures u) c.without_attributes-in-PrecedingSibling.ensures)
    (λ x y h k. preceding_sibling_axis _ _ _ _ c.args.self.now.sound x y))
