-- The order of ends that code makes is that in which links are shown.
use Rattle.std.proofs.Common.{◌≡◌, Bool, true, false, cond, ltb, ◌==◌, refl}
use Rattle.std.specs.Ordering.{partial_lt, is_lt}
use Rattle.std.specs.declared.cmp.Ordering.TheVariants.{Less, Equal, Greater}
use Rattle.dl_types.specs.declared.address.Address.{Address}
use Rattle.dl_types.specs.declared.address.Address.TheVariants.{Client, Bookie, Meta}
use Rattle.dl_types.specs.contracts.address.AddressPartialOrd.TheImpl as address
use Rattle.dl_machine.specs.Lines.{is_end_before}

-- less by two tests is what the first says
less_is : (lt eq : Bool) → is_lt (cond lt Less (cond eq Equal Greater)) ≡ lt
less_is true eq = refl
less_is false true = refl
less_is false false = refl

-- one end before another
pub end_order : (a b : Address) → partial_lt (address.partial_cmp-value).it a b ≡ is_end_before a b
end_order (Client c) (Client d) = less_is (ltb c d) (c == d)
end_order (Client c) (Bookie d) = refl
end_order (Client c) Meta = refl
end_order (Bookie b) (Client d) = refl
end_order (Bookie b) (Bookie d) = less_is (ltb b d) (b == d)
end_order (Bookie b) Meta = refl
end_order Meta (Client d) = refl
end_order Meta (Bookie d) = refl
end_order Meta Meta = refl
