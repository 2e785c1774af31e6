use Rattle.std.proofs.Common.{◌≡◌, Ok, sym, ap, ◌∙◌, subst, inl}
use Rattle.diagram.specs.Nodes.{meaning}
use Rattle.implicant.specs.Variables.{mask_setting}
use Rattle.implicant.proofs.Masking.{masks_are_words}
use Rattle.implicant.proofs.Handles.{meaning_options}
use Rattle.engine.proofs.graph.Graph.contains.Goals as goal

pub returns : goal.returns
returns g c =
    let T = g.T.NodeTable in
    let t = c.self.inside.manager.table in
    let f = meaning (T.nodes t) c.args.set in
    let p = c.in-Ok.product in
    let made = c.in-Ok.ensures in
    let words = c.answer_at.ensures ∙ sym (masks_are_words f (meaning_options (T.nodes t) (g.met.T.NodeTable.sound t).formed c.args.set) p) in
    let masks = ap (λ named. f (mask_setting named p.sign)) made.1 ∙ ap (λ sign. f (mask_setting c.args.named sign)) made.2 in
    let is = subst (λ s. c.answer_at.result ≡ meaning (T.nodes s) c.args.set (mask_setting c.args.named c.args.sign)) c.self.view_is (words ∙ masks) in
    record { outcome = inl (made.0, inl (c.in_ok-issued.ensures, inl (c.in_ok-product_set.ensures, ap Ok is))) }
