-- A loop over value types that appends variables.
use Rattle.std.proofs.Common.{◌≡◌, ◌∙◌, Bool, List, [], ◌∷◌, ◌++◌, map, Some, None, Ok, length, ◌<◌, refl, sym, ap, append_assoc, append-nil}
use Rattle.std.proofs.lemmas.List.{map-append}
use Rattle.wat_module_ast.specs.declared.error.ParseFailure.{ParseFailure}
use Rattle.wat_module_ast.specs.declared.instruction.ValueType.{ValueType}
use Rattle.wat_module_ast.specs.Fields.{Variable, ValueTypeIs, unnamed}
use Rattle.wat_module_instructions.specs.Parts.{Faults}
use Rattle.wat_module_parser.specs.Groups.{AreListed, IsListed}
use Rattle.wat_module_parser.specs.Reading.{Read, all, and_then, closing, listed, value_item, closed_or, after_values}
use Rattle.wat_module_parser.specs.Views.{IsItem, ItemFaults}
use Rattle.wat_module_tokens.specs.Terminals.{Terminal}
use Rattle.wat_module_parser.proofs.Items.{values_read}
use Rattle.wat_module_parser.proofs.Manies.{Leads, faulted, leads_all, leads_on, leads_out, smaller}

-- From `ts` on, the loop has come to `left`, and variables of the types that were parsed are appended to `before`, which
-- gives `after`.
pub record Listing (before after : List Variable) (ts left : List Terminal) : Type 0 where
  pub types : List ValueType
  pub follow : after ≡ before ++ map unnamed types
  pub leads : (q : Read (List ValueType)) → Leads value_item types left q → Leads value_item [] ts q

pub listing_start : (before : List Variable) (ts : List Terminal) → Listing before before ts ts
listing_start before ts = record { types = []; follow = sym (append-nil before); leads = λ q h. h }

pub listing_smaller : (ts us : List Terminal) (before after : List Variable) (i : IsListed ts before after us) → length us < length ts
listing_smaller ts us before after i = smaller value_item ValueTypeIs values_read ts us (i.type ∷ []) i.is

pub listing_on : (before now after : List Variable) (ts left next : List Terminal) → Listing before now ts left → IsListed left now after next → Listing before after ts next
listing_on before now after ts left next l i = record {
  types = l.types ++ i.type ∷ [];
  follow =
      i.follow ∙ ap (λ x. x ++ unnamed i.type ∷ []) l.follow ∙ append_assoc before (map unnamed l.types) (unnamed i.type ∷ [])
      ∙ ap (λ x. before ++ x) (sym (map-append unnamed l.types (i.type ∷ [])));
  leads = λ q h. l.leads q (leads_on value_item l.types (l.types ++ i.type ∷ []) (i.type ∷ []) left next q i.is refl (listing_smaller left next now after i) h);
}

pub listing_end : (before now after : List Variable) (ts left : List Terminal) → Listing before now ts left → value_item left ≡ None → after ≡ now → AreListed ts before after left
listing_end before now after ts left l none e = record {
  types = l.types;
  is = leads_all value_item ts (Ok (l.types, left)) (l.leads (Ok (l.types, left)) (leads_out value_item l.types l.types left none refl));
  follow = e ∙ l.follow;
}

pub listing_fault : (before now : List Variable) (ts left : List Terminal) (e : ParseFailure) → Listing before now ts left → ItemFaults (value_item left) e → Faults (all value_item ts) e
listing_fault before now ts left e l h = faulted value_item [] l.types ts left e refl l.leads h

-- Value types and the `)` of their group.
pub listed_is : (may : Bool) (before after : List Variable) (ts us left : List Terminal) → AreListed ts before after us → closed_or (after_values may ts) us ≡ Ok left → IsItem (Some (listed may ts)) before after left
unfolding listed
listed_is may before after ts us left l e = record {
  values = map unnamed l.types;
  is = ap (λ q. Some (and_then q (λ types vs. closing (map unnamed types) (closed_or (after_values may ts) vs)))) l.is ∙ ap (λ q. Some (closing (map unnamed l.types) q)) e;
  follow = l.follow;
}
