use Rattle.std.proofs.Common.{[], ap, ap₂, arith, length, ℕ, ◌∙◌, ◌≡◌}
use Rattle.shake256.specs.declared.Sponge.{Sponge}
use Rattle.shake256.specs.Stream.{absorbed}
use Rattle.shake256.specs.Fips.{SHAKE256}
use Rattle.exchange.specs.Strings.{string5}
use Rattle.strings.specs.Digest.{hashed}
use Rattle.layout.specs.Layout.Bounds.{leaves-most}
use Rattle.leaves.specs.Commitments.{commitments_of}
use Rattle.leaves.specs.Commitments.Laws.{commitments-begun, committed-none, committed-more, committed-digest}
use Rattle.leaves.proofs.commitments.digest_commitments.Goals as goal

pub loop-i-init : goal.loop-i-init
loop-i-init c = let args = c.args in
    c.begin-all.ensures ∙ committed-none args.prefix.now
    (commitments_of args.p args.prefix.now args.states.now args.hidden_leaf args.given.now args.aux.now)

pub absorb_commitment-all-requires : goal.absorb_commitment-all-requires
absorb_commitment-all-requires c = let count = c.leaf_count-n.ensures in
    record {
      of = record { within = c.requires.within; number = omega (arith, leaves-most c.args.p c.requires.within) };
      state = omega (arith, c.requires.states);
    }

pub loop-i-preserved : goal.loop-i-preserved
loop-i-preserved c = let args = c.args in let i = c.loop-i.i in
    let f = commitments_of args.p args.prefix.now args.states.now args.hidden_leaf args.given.now args.aux.now in
    let is = commitments-begun args.p args.prefix.now args.states.now args.hidden_leaf args.given.now args.aux.now i
    c.begin-start.result c.begin-start.ensures in
    c.absorb_commitment-all.ensures ∙ ap₂ absorbed c.loop-i.invariant is ∙ committed-more args.prefix.now f i

pub returns : goal.returns
returns c = let filled = c.digest in let args = c.args in
    let f = commitments_of args.p args.prefix.now args.states.now args.hidden_leaf args.given.now args.aux.now in
    let size = length args.out.now in let last : c.loop-i.i ≡ c.leaf_count-n.result = omega arith in
    filled.ensures ∙ ap (λ (s : Sponge). hashed s [] size) c.loop-i.invariant ∙ committed-digest args.prefix.now f c.loop-i.i size
    ∙ ap (λ (n : ℕ). SHAKE256 (string5 args.prefix.now f n) size) (last ∙ c.leaf_count-n.ensures)
