use Rattle.je_types.proofs.typed.Typed.of.Goals as goal

pub invariant_of-result : goal.invariant_of-result
invariant_of-result c = record {
  library = ∣ c.requires.library ∣₁;
  small = ∣ c.requires.small ∣₁;
  fits = c.requires.fits;
  placed = c.requires.placed;
  ordered = c.requires.ordered;
  told = c.requires.told;
}
