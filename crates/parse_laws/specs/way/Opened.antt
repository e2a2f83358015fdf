-- All reading functions under one name, for rows.
use Rattle.std.specs.Prelude.{ℕ}
use Rattle.parse_laws.specs.way.Types.{parts_at, name_at, more_names_at, names_at, more_dims_at, dims_at, primitive_type_at, type_argument_at, type_arguments_at, reference_layer, type_layer, type_at, reference_at, element_at, plain_type_at, past_type_at, past_name_at, past_dims_at, is_cast_at, begins_local_at, formal_at, more_formals_at, formals_at, throws_at, parameter_at, more_parameters_at, parameters_at, superclass_at, more_references_at, references_at, override_at, modifier_at, more_modifiers_at, modifiers_at}
use Rattle.parse_laws.specs.way.Expressions.{is_outer_this_at, outer_this_at, makes_array_at, more_arguments_at, arguments_at, length_at, more_lengths_at, lengths_at, filled_at, array_at, object_at, creation_at, named_at, super_member_at, parens_at, primary_at, index_step, selection_step, selections_at, increments_at, postfix_at, cast_at, prefix_at, unary_at, binary_step, operation_step, operations_at, choices_at, conditional_at, assignment_at, expression_layer, behind_lone_comma, values_at, array_initializer_layer}
use Rattle.parse_laws.specs.way.Statements.{is_for_each_at, variable_at, more_variables_at, variables_at, more_statements_at, block_statements_at, block_layer, inner_block_at, condition_at, else_at, if_at, while_at, do_at, labelled_at, break_at, continue_at, return_at, throw_at, expression_statement_at, more_steps_at, steps_before_at, start_locals_at, start_at, ended_condition_at, plain_for_at, for_each_at, for_at, switch_label_at, labels_at, group_statements_at, group_at, groups_at, switch_at, catch_at, catches_at, finally_at, try_at, statement_layer, local_at}
use Rattle.parse_laws.specs.way.Members.{class_head_at, interface_head_at, result_type_at, method_head_at, constructor_head_at, more_constants_at, constants_at, enum_at, begins_local_class_at, begins_method_at, more_members_at, class_body_at, class_at, interface_at, declared_at, declaration_layer, local_class_at, method_body_at, method_at, first_call_at, explicit_or_implicit_at, constructor_at, field_at, initializer_at, modified_at, member_layer}
use Rattle.parse_laws.specs.way.Knot.{expression_over, initializer_over, block_statement_over, layer, nothing, at, declaration_at, import_at, imports_at, declarations_at, unit_at}
use Rattle.parse_laws.specs.way.Place.{declared_item_at, member_item_at, statement_item_at, item_at, type_opening_at, method_opening_at, member_opening_at, statement_opening_at, opening_at, follow_at, place_at, deep_opening_at, follow_quickly_at, quick_place_at}

-- opens them all
unfoldable pub opened : ℕ
unfolding parts_at name_at more_names_at names_at more_dims_at dims_at primitive_type_at type_argument_at type_arguments_at reference_layer type_layer type_at reference_at element_at plain_type_at past_type_at past_name_at past_dims_at is_cast_at begins_local_at formal_at more_formals_at formals_at throws_at parameter_at more_parameters_at parameters_at superclass_at more_references_at references_at override_at modifier_at more_modifiers_at modifiers_at is_outer_this_at outer_this_at makes_array_at more_arguments_at arguments_at length_at more_lengths_at lengths_at filled_at array_at object_at creation_at named_at super_member_at parens_at primary_at index_step selection_step selections_at increments_at postfix_at cast_at prefix_at unary_at binary_step operation_step operations_at choices_at conditional_at assignment_at expression_layer behind_lone_comma values_at array_initializer_layer is_for_each_at variable_at more_variables_at variables_at more_statements_at block_statements_at block_layer inner_block_at condition_at else_at if_at while_at do_at labelled_at break_at continue_at return_at throw_at expression_statement_at more_steps_at steps_before_at start_locals_at start_at ended_condition_at plain_for_at for_each_at for_at switch_label_at labels_at group_statements_at group_at groups_at switch_at catch_at catches_at finally_at try_at statement_layer local_at class_head_at interface_head_at result_type_at method_head_at constructor_head_at more_constants_at constants_at enum_at begins_local_class_at begins_method_at more_members_at class_body_at class_at interface_at declared_at declaration_layer local_class_at method_body_at method_at first_call_at explicit_or_implicit_at constructor_at field_at initializer_at modified_at member_layer expression_over initializer_over block_statement_over layer nothing at declaration_at import_at imports_at declarations_at unit_at declared_item_at member_item_at statement_item_at item_at type_opening_at method_opening_at member_opening_at statement_opening_at opening_at follow_at place_at deep_opening_at follow_quickly_at quick_place_at
opened = 0
